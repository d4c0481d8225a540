-- The levels of a layer set: batches over the layers of two trees, and what calls make of them.
use Rattle.std.specs.Prelude.{ℕ, ◌-◌, ◌≤◌, false, List, [], ◌∷◌, ◌++◌, length, map, take, drop, reverse}
use Rattle.std.specs.List.{flat_map}
use Rattle.std.specs.Arc.{arc_value}
use Rattle.fx_item.specs.Item.{PlainItem, PlainKey}
use Rattle.fx_item.specs.Place.{Place}
use Rattle.fx_item.specs.Overlay.{Said}
use Rattle.fx_merge.specs.Cursor.{says_all}
use Rattle.fx_merge.specs.Merge.{MergeState}
use Rattle.fx_layerset.specs.declared.layered.Layered.{Layered}
use Rattle.fx_layerset.specs.declared.layered.Layered.TheVariants as layers

-- a level: its items, and the blocks that are not at hand
pub record PlainLevel : Type 0 where
  pub items : List PlainItem
  pub lacks : List ℕ

abbrev pub batch_level : List PlainItem → PlainLevel
batch_level items = record { items = items; lacks = [] }

-- a shared level of the program
abbrev pub level_in : {L : Type 0} → (L → List PlainItem) → (L → List ℕ) → Layered L → PlainLevel
level_in items lacks (layers.Batch b) = batch_level (arc_value b)
level_in items lacks (layers.Layer l) =
    record { items = items (arc_value l); lacks = lacks (arc_value l) }

abbrev pub levels_in : {L : Type 0} → (L → List PlainItem) → (L → List ℕ) → List (Layered L)
    → List PlainLevel
levels_in items lacks levels = map (level_in items lacks) levels

-- The levels of a set, each list the oldest first: batches, layers of the tree of objects, and layers
-- of the tree of allocations.
pub record SetLevels : Type 0 where
  pub batches : List PlainLevel
  pub objects : List PlainLevel
  pub allocs : List PlainLevel

-- For how many levels each list has memory, those that it has included.
pub record SetRoom : Type 0 where
  pub batches : ℕ
  pub objects : ℕ
  pub allocs : ℕ

pub record SetState : Type 0 where
  pub levels : SetLevels
  pub room : SetRoom

-- no memory is given back
pub record NoLessRoom (old new : SetRoom) : Type 0 where
  pub batches : old.batches ≤ new.batches
  pub objects : old.objects ≤ new.objects
  pub allocs : old.allocs ≤ new.allocs

-- ---- what levels say

-- as they are looked up
abbrev pub newest_first : SetLevels → List PlainLevel
newest_first s = reverse s.batches ++ reverse s.objects ++ reverse s.allocs

abbrev pub item_lists : List PlainLevel → List (List PlainItem)
item_lists levels = map (λ l. l.items) levels

-- levels together, the newest first
abbrev pub said_over : List PlainLevel → Said
said_over levels = says_all (item_lists levels)

abbrev pub said_in_set : SetLevels → Said
said_in_set s = said_over (newest_first s)

abbrev pub lacked_by : List PlainLevel → List ℕ
lacked_by levels = flat_map (λ l. l.lacks) levels

abbrev pub keys_in : List PlainLevel → List PlainKey
keys_in levels = flat_map (λ l. map (λ x. x.key) l.items) levels

-- a merge of all levels from a place on
abbrev pub merge_over : SetLevels → Place → MergeState
merge_over s place = record {
  levels = item_lists (newest_first s);
  lacks = lacked_by (newest_first s);
  place = place;
  started = false;
}

-- ---- what calls make of them

-- the newest n of levels, the oldest first; all where there are fewer
abbrev pub newest : {X : Type 0} → ℕ → List X → List X
newest n levels = drop (length levels - n) levels

-- those that are older
abbrev pub below_newest : {X : Type 0} → ℕ → List X → List X
below_newest n levels = take (length levels - n) levels

-- all batches, and the newest n layers of each tree
abbrev pub upper_levels : ℕ → SetLevels → SetLevels
upper_levels n s = record s { objects = newest n s.objects; allocs = newest n s.allocs }

-- one more batch, the newest
abbrev pub pushed_batch : SetState → List PlainItem → SetState
pushed_batch s items =
    record s { levels = record s.levels { batches = s.levels.batches ++ batch_level items ∷ [] } }

-- the layers in the place of the oldest batches, so many, and of the newest n layers of each tree
abbrev pub installed_levels : SetLevels → (below n : ℕ) → (objects allocs : List PlainLevel)
    → SetLevels
installed_levels s below n objects allocs = record {
  batches = drop below s.batches;
  objects = below_newest n s.objects ++ objects;
  allocs = below_newest n s.allocs ++ allocs;
}

-- one batch in the place of the oldest ones, so many
abbrev pub tidied : SetState → (below : ℕ) → List PlainItem → SetState
tidied s below items = record s {
  levels = record s.levels { batches = batch_level items ∷ drop below s.levels.batches };
}
