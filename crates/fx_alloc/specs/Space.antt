-- What an allocator holds, its formulas, and what its calls make of it.
use Rattle.std.specs.Prelude.{◌≡◌, ◌≢◌, ℕ, ◌+◌, ◌-◌, ◌*◌, ◌<◌, ◌≤◌, ◌⊎◌, true, nat_le, if◌then◌else◌, List, [], ◌∷◌, ◌++◌, length, map, replicate, slice_set, slice_index_or, sum_by, count_by, All, Option, None, Some, IsSome, IsSomeAnd, IfSome}
use Rattle.fx_item.specs.declared.Sizes.{Sizes}
use Rattle.fx_item.specs.declared.space.Need.{Need}
use Rattle.fx_item.specs.declared.space.Beyond.{Beyond}
use Rattle.fx_item.specs.declared.space.TheConstants.{MAX_GIVEN}
use Rattle.fx_item.specs.SpaceRule.{layer_bound, NeedsNothing, FitsCounted, HasIds}
use Rattle.fx_alloc.specs.declared.uses.Use.{Use}
use Rattle.fx_alloc.specs.declared.uses.Use.TheVariants.{Free, Drawn, Live, Freed, Layer, Laid}
use Rattle.fx_alloc.specs.declared.uses.Waiting.{Waiting}
use Rattle.fx_alloc.specs.declared.holders.Holder.{Holder}
use Rattle.fx_alloc.specs.declared.holders.TheConstants.{VACANT}
use Rattle.fx_alloc.specs.Uses.{is_free, is_drawn_by, is_live, is_freed, is_layer, is_laid, is_pinned, use_at, put_all, blank}
use Rattle.fx_alloc.specs.Pins.{PinTable, no_pins, is_among, is_kept, pin_at, set_has, ChangesPin, unpinned}
use Rattle.fx_alloc.specs.Layers.{switched_use, unpinned_use}
use Rattle.fx_alloc.specs.Holders.{held_seat, vacant_seat, needing, having_drawn}

pub record Space : Type 0 where
  -- blocks of the ring
  pub ring : ℕ
  -- nodes and attributes of the tree and the graveyard
  pub nodes : ℕ
  pub attributes : ℕ
  -- ids given out since the mount
  pub given : ℕ
  -- of each block its use
  pub uses : List Use
  -- of each seat what its number holds
  pub holders : List Holder
  -- the freed blocks with the numbers of their transactions, the lowest first
  pub waiting : List Waiting
  -- so many more blocks may be freed without memory
  pub room : ℕ
  -- blocks set aside for the open checkpoint, laid ones included
  pub aside : Option ℕ
  pub pins : PinTable

-- ---- the sizes of the sets

abbrev pub free_count : Space → ℕ
free_count s = count_by is_free s.uses

abbrev pub live_of : Space → ℕ
live_of s = count_by is_live s.uses

abbrev pub laid_of : Space → ℕ
laid_of s = count_by is_laid s.uses

-- freed and not settled, or kept for pins alone
abbrev pub waiting_of : Space → ℕ
waiting_of s = count_by is_freed s.uses + count_by is_pinned s.uses

-- ---- what is held

abbrev pub held_nodes : List Holder → ℕ
held_nodes holders = sum_by (λ h. h.nodes) holders

abbrev pub held_attributes : List Holder → ℕ
held_attributes holders = sum_by (λ h. h.attributes) holders

-- blocks that may still be drawn
abbrev pub undrawn : List Holder → ℕ
undrawn holders = sum_by (λ h. h.held) holders

abbrev pub drawn : List Holder → ℕ
drawn holders = sum_by (λ h. h.drawn) holders

-- blocks set aside for the open checkpoint and not yet laid
abbrev pub left_aside : Option ℕ → ℕ → ℕ
left_aside None laid = 0
left_aside (Some n) laid = n - laid

-- blocks set aside, laid ones included
abbrev pub aside_count : Option ℕ → ℕ
aside_count None = 0
aside_count (Some n) = n

-- ---- the counts with all needs, an asked one among them

abbrev pub nodes_with : Space → Need → ℕ
nodes_with s need = s.nodes + held_nodes s.holders + need.nodes

abbrev pub attributes_with : Space → Need → ℕ
attributes_with s need = s.attributes + held_attributes s.holders + need.attributes

abbrev pub blocks_with : Space → Need → ℕ
blocks_with s need = live_of s + undrawn s.holders + drawn s.holders + need.blocks

abbrev pub bound_with : Space → Need → ℕ
bound_with s need = layer_bound (nodes_with s need) (attributes_with s need) (blocks_with s need)

-- ---- the three tests

-- the first and the third: the counts fit, and the ids last
abbrev pub PassesCounts : Space → Need → Type 0
PassesCounts s need =
    FitsCounted (length s.uses) s.ring
    (nodes_with s need) (attributes_with s need) (blocks_with s need) (waiting_of s)
    × HasIds s.given need.nodes

-- one of them fails
abbrev pub IsOver : Space → Need → Type 0
IsOver s need =
    (length s.uses < blocks_with s need + waiting_of s + 3 * bound_with s need + 3 * s.ring + 2)
    ⊎ (MAX_GIVEN < s.given + need.nodes)

-- how many layer bounds stay free
abbrev pub bounds_kept : Option ℕ → ℕ
bounds_kept None = 2
bounds_kept (Some n) = 1

-- the second: blocks are free for what is held and set aside, for the need, and for the layers to
-- come
abbrev pub IsFree : Space → Need → Type 0
IsFree s need =
    undrawn s.holders + left_aside s.aside (laid_of s) + need.blocks
    + bounds_kept s.aside * bound_with s need ≤ free_count s

abbrev pub CanReserve : Space → Need → Type 0
CanReserve s need = NeedsNothing need ⊎ (PassesCounts s need × IsFree s need)

abbrev pub no_need : Need
no_need = record { nodes = 0; attributes = 0; blocks = 0 }

-- What an open checkpoint has laid counts as free.
abbrev pub CanSetAside : Space → Type 0
CanSetAside s = undrawn s.holders + bound_with s no_need ≤ free_count s + laid_of s

-- ---- what is answered

abbrev pub beyond_of : Space → Beyond
beyond_of s = record {
  nodes = held_nodes s.holders;
  attributes = held_attributes s.holders;
  blocks = undrawn s.holders + drawn s.holders;
  waiting = waiting_of s;
  given = s.given;
}

-- ---- what the calls make of it

abbrev pub opened : (blocks ring : ℕ) → (live layers : List ℕ) → Sizes → Space
opened blocks ring live layers sizes = record {
  ring = ring;
  nodes = sizes.nodes;
  attributes = sizes.attributes;
  given = 0;
  uses = put_all Layer layers (put_all Live live (blank blocks ring));
  holders = replicate 32 VACANT;
  waiting = [];
  room = 0;
  aside = None;
  pins = no_pins;
}

abbrev pub HasSeat : Space → ℕ → Type 0
HasSeat s who = IsSome (held_seat s.holders who)

-- the number has a seat, or there is one for it
abbrev pub CanSit : Space → ℕ → Type 0
CanSit s who = HasSeat s who ⊎ IsSome (vacant_seat s.holders)

abbrev pub holder_at : List Holder → ℕ → Holder
holder_at holders seat = slice_index_or holders seat VACANT

-- the number may still draw a block
abbrev pub HoldsBlock : Space → ℕ → Type 0
HoldsBlock s who = IsSomeAnd (held_seat s.holders who) (λ seat. 0 < (holder_at s.holders seat).held)

abbrev pub sitting : ℕ → Holder
sitting who = record VACANT { who = who; sits = true }

abbrev pub seat_given : Space → ℕ → ℕ → Space
seat_given s who seat = record s { holders = slice_set s.holders seat (sitting who) }

abbrev pub reserved : Space → Need → ℕ → Space
reserved s need seat = record s {
  given = s.given + need.nodes;
  holders = slice_set s.holders seat (needing (holder_at s.holders seat) need);
}

abbrev pub drawing : Space → ℕ → ℕ → Space
drawing s block seat = record s {
  uses = slice_set s.uses block (Drawn seat);
  holders = slice_set s.holders seat (having_drawn (holder_at s.holders seat));
}

-- what was laid for a checkpoint is free again
abbrev pub unlaid : Use → Use
unlaid Laid = Free
unlaid u = u

-- the layers may be written anew: as many blocks as they may take are set aside, and none is laid
abbrev pub setting_aside : Space → Space
setting_aside s = record s { uses = map unlaid s.uses; aside = Some (bound_with s no_need) }

-- a block is set aside and not yet laid
abbrev pub HasAside : Space → Type 0
HasAside s = 0 < left_aside s.aside (laid_of s)

abbrev pub laying : Space → ℕ → Space
laying s block = record s { uses = slice_set s.uses block Laid }

-- what was drawn from this seat has another use
abbrev pub turned : ℕ → Use → Use → Use
turned seat to u = if is_drawn_by seat u then to else u

-- the holder leaves, and what it drew has another use
abbrev pub holder_ended : Space → Use → ℕ → Space
holder_ended s to seat = record s {
  uses = map (turned seat to) s.uses;
  holders = slice_set s.holders seat VACANT;
}

-- ---- what was freed

-- the blocks that transactions up to a number freed, and what is left to wait
abbrev pub settled_blocks : ℕ → List Waiting → List ℕ
settled_blocks n [] = []
settled_blocks n (w ∷ ws) = if nat_le w.number n then w.block ∷ settled_blocks n ws else []

abbrev pub left_waiting : ℕ → List Waiting → List Waiting
left_waiting n [] = []
left_waiting n (w ∷ ws) = if nat_le w.number n then left_waiting n ws else w ∷ ws

-- Each number is at least those before it.
unfoldable pub AreRising : List Waiting → Type 0
AreRising [] = Unit {0}
AreRising (w ∷ ws) = All (λ v. w.number ≤ v.number) ws × AreRising ws

-- no number in the list is above this one
abbrev pub IsLatest : ℕ → List Waiting → Type 0
IsLatest n ws = All (λ w. w.number ≤ n) ws

abbrev pub freeing : Space → ℕ → ℕ → Space
freeing s block number = record s {
  uses = slice_set s.uses block Freed;
  waiting = s.waiting ++ record { block = block; number = number } ∷ [];
  room = s.room - 1;
}

abbrev pub settling : Space → ℕ → Space
settling s number = record s {
  uses = put_all Free (settled_blocks number s.waiting) s.uses;
  waiting = left_waiting number s.waiting;
}

-- ---- layers and pins

-- The blocks laid are the layers' now, those named stay, and the others are free, or kept for pins.
pub record IsSwitched (old new : Space) (stay : List ℕ) : Type 0 where
  pub uses : (b : ℕ) → use_at new.uses b ≡
      switched_use (is_among b stay) (is_kept old.pins.kept b) (use_at old.uses b)
  pub disk : length new.uses ≡ length old.uses
  -- none is set aside, and the new layers have no pins
  pub others : new ≡ record old {
    uses = new.uses;
    aside = None;
    pins = record old.pins { present = None };
  }

-- A number that no pin had is a pin of the present layer blocks.
pub record IsPinned (old new : Space) (pin : ℕ) : Type 0 where
  pub vacant : pin_at old.pins.pins pin ≡ None
  pub set : ℕ
  pub pins : ChangesPin old.pins.pins new.pins.pins pin (Some set)
  pub layers : (b : ℕ) → set_has new.pins.kept set b ≡ is_layer (use_at old.uses b)
  pub sets : (other b : ℕ) → other ≢ set →
      set_has new.pins.kept other b ≡ set_has old.pins.kept other b

abbrev pub HasPin : Space → ℕ → Type 0
HasPin s pin = IsSome (pin_at s.pins.pins pin)

-- The pin has ended, and blocks that were kept for pins and that none of those left keeps are free.
pub record IsUnpinned (old new : Space) (pin : ℕ) : Type 0 where
  pub pins : IfSome (pin_at old.pins.pins pin) (λ set. new.pins ≡ unpinned old.pins pin set)
  pub uses : (b : ℕ) → use_at new.uses b ≡
      unpinned_use (is_kept new.pins.kept b) (use_at old.uses b)
  pub disk : length new.uses ≡ length old.uses
  pub others : new ≡ record old { uses = new.uses; pins = new.pins }
