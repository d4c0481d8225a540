-- Which blocks pins keep.
use Rattle.std.specs.Prelude.{◌≡◌, ◌≢◌, ℕ, ◌==◌, ◌&&◌, ◌||◌, not, Bool, false, if◌then◌else◌, List, [], ◌∷◌, ◌++◌, map, filter, count_by, slice_index_or, slice_set, Option, Some, None}
use Rattle.fx_alloc.specs.declared.pins.Kept.{Kept}

-- the block stands in the list
abbrev pub is_among : ℕ → List ℕ → Bool
is_among b [] = false
is_among b (c ∷ cs) = (c == b) || is_among b cs

-- The pins that are present. The layers that stood when a pin was made are its layer set; pins of
-- the same layers share one.
pub record PinTable : Type 0 where
  -- of each pin its layer set
  pub pins : List (Option ℕ)
  -- the blocks of these layer sets
  pub kept : List Kept
  -- the set of the present layers, if it has pins
  pub present : Option ℕ

abbrev pub no_pins : PinTable
no_pins = record { pins = []; kept = []; present = None }

-- the layer set of a present pin
abbrev pub pin_at : List (Option ℕ) → ℕ → Option ℕ
pin_at pins pin = slice_index_or pins pin None

abbrev pub is_same_set : ℕ → Option ℕ → Bool
is_same_set set None = false
is_same_set set (Some s) = s == set

-- how many pins a layer set has
abbrev pub pins_of : List (Option ℕ) → ℕ → ℕ
pins_of pins set = count_by (is_same_set set) pins

abbrev pub kept_blocks : List Kept → List ℕ
kept_blocks kept = map (λ k. k.block) kept

-- some pin keeps the block
abbrev pub is_kept : List Kept → ℕ → Bool
is_kept kept b = is_among b (kept_blocks kept)

-- the layer set has the block
abbrev pub set_has : List Kept → ℕ → ℕ → Bool
set_has [] set b = false
set_has (k ∷ ks) set b = ((k.set == set) && (k.block == b)) || set_has ks set b

-- these blocks, each with the set
abbrev pub in_set : ℕ → List ℕ → List Kept
in_set set blocks = map (λ b. record { block = b; set = set }) blocks

-- The pin has this set, or none, and each other pin has what it had.
pub record ChangesPin (old new : List (Option ℕ)) (pin : ℕ) (slot : Option ℕ) : Type 0 where
  pub changed : pin_at new pin ≡ slot
  pub others : (other : ℕ) → other ≢ pin → pin_at new other ≡ pin_at old other

-- The present layers' set stands already, or it is a new one, with no pins before and these blocks.
pub data KeepsSet (blocks : List ℕ) (present : Option ℕ) (old new : List Kept) (set pins : ℕ)
    : Type 0 where
  Standing : present ≡ Some set → new ≡ old → KeepsSet blocks present old new set pins
  Added : present ≡ None → pins ≡ 0 → new ≡ old ++ in_set set blocks →
      KeepsSet blocks present old new set pins

-- A number that no pin had is a pin of the layers in these blocks.
pub record PinsBlocks (blocks : List ℕ) (old new : PinTable) (pin : ℕ) : Type 0 where
  pub set : ℕ
  pub vacant : pin_at old.pins pin ≡ None
  pub pins : ChangesPin old.pins new.pins pin (Some set)
  pub present : new.present ≡ Some set
  pub kept : KeepsSet blocks old.present old.kept new.kept set (pins_of old.pins set)

-- ---- a pin ends

abbrev pub other_sets : ℕ → List Kept → List Kept
other_sets set kept = filter (λ k. not (k.set == set)) kept

-- how many other pins have its set
abbrev pub other_pins : PinTable → ℕ → ℕ → ℕ
other_pins t pin set = pins_of (slice_set t.pins pin None) set

-- The pin is none of those that are left. Where no other pin has its set, the set is none either.
abbrev pub unpinned : PinTable → ℕ → ℕ → PinTable
unpinned t pin set = record {
  pins = slice_set t.pins pin None;
  kept = if other_pins t pin set == 0 then other_sets set t.kept else t.kept;
  present = if (other_pins t pin set == 0) && is_same_set set t.present then None else t.present;
}
