-- The facts on counts by which a file system never runs out of blocks that it promised.
use Rattle.std.specs.Prelude.{◌≡◌, ℕ, zero, suc, ◌+◌, ◌*◌, ◌<◌, ◌≤◌, nat_lt, List, ◌++◌, length, count_by, All, IsSome, Some, None}
use Rattle.fx_item.specs.declared.Sizes.{Sizes}
use Rattle.fx_item.specs.declared.space.Need.{Need}
use Rattle.fx_item.specs.SpaceRule.{layer_bound}
use Rattle.fx_alloc.specs.declared.uses.Use.TheVariants.{Free, Live}
use Rattle.fx_alloc.specs.declared.uses.Waiting.{Waiting}
use Rattle.fx_alloc.specs.Uses.{is_freed, is_layer, is_pinned, use_at, StandOnce}
use Rattle.fx_alloc.specs.Holders.{held_seat, vacant_seat}
use Rattle.fx_alloc.specs.Inside.{IsSoundSpace}
use Rattle.fx_alloc.specs.Space.{Space, live_of, undrawn, drawn, aside_count, bound_with, no_need, free_count, holder_at, opened, seat_given, reserved, drawing, holder_ended, freeing, settling, setting_aside, laying, IsSwitched, IsUnpinned, HoldsBlock, HasAside, PassesCounts, IsFree, CanReserve, CanSetAside, IsLatest}

-- blocks of all that is held, drawn or not
abbrev pub held_blocks : Space → ℕ
held_blocks s = undrawn s.holders + drawn s.holders

-- the bound on the layers of the committed tree with all that is held
abbrev pub held_bound : Space → ℕ
held_bound s = bound_with s no_need

abbrev pub freed_of : Space → ℕ
freed_of s = count_by is_freed s.uses

abbrev pub layer_count : Space → ℕ
layer_count s = count_by is_layer s.uses

-- blocks freed by transactions after a number, and not settled
abbrev pub freed_after : ℕ → List Waiting → ℕ
freed_after n ws = count_by (λ w. nat_lt n w.number) ws

-- ---- the facts

-- What is live and held has place beside two whole sets of layers, and, with what waits, beside the
-- present layers and a whole set.
pub record HasSpace (s : Space) : Type 0 where
  pub small : live_of s + held_blocks s + 2 * held_bound s + s.ring + 2 ≤ length s.uses
  pub ready : live_of s + freed_of s + held_blocks s + layer_count s + held_bound s + s.ring + 2
      ≤ length s.uses

-- All that is in use, held or set aside has place.
pub record IsWhole (s : Space) : Type 0 where
  pub whole : live_of s + freed_of s + held_blocks s + layer_count s + count_by is_pinned s.uses
      + aside_count s.aside + s.ring + 2 ≤ length s.uses

-- Beside the layers of the open checkpoint, which keeps the transactions up to a number, the same
-- has place as `HasSpace` says of the present layers.
pub record IsTurned (n : ℕ) (s : Space) : Type 0 where
  pub turned : live_of s + freed_after n s.waiting + held_blocks s + aside_count s.aside
      + held_bound s + s.ring + 2 ≤ length s.uses

-- the facts of one allocator are facts of another
pub record KeepsRoom (s t : Space) : Type 0 where
  pub roomy : HasSpace s → HasSpace t
  pub turned : (n : ℕ) → IsTurned n s → IsTurned n t

-- ---- what each call keeps

-- After a mount: of the blocks that the image has live and those of its layers.
abbrev pub OpenedRoom : Type 0
OpenedRoom = (blocks ring : ℕ) (live layers : List ℕ) (sizes : Sizes) → ring + 2 ≤ blocks
    → All (λ b. (ring + 2 ≤ b) × (b < blocks)) (live ++ layers) → StandOnce (live ++ layers)
    → length live + length layers + layer_bound sizes.nodes sizes.attributes (length live)
    + ring + 2 ≤ blocks
    → length live + 2 * layer_bound sizes.nodes sizes.attributes (length live) + ring + 2 ≤ blocks
    → HasSpace (opened blocks ring live layers sizes)

abbrev pub SeatRoom : Type 0
SeatRoom = (s : Space) (who seat : ℕ) → vacant_seat s.holders ≡ Some seat
    → KeepsRoom s (seat_given s who seat)

abbrev pub ReservedRoom : Type 0
ReservedRoom = (s : Space) (who seat : ℕ) (need : Need) → IsSoundSpace s
    → held_seat s.holders who ≡ Some seat → CanReserve s need
    → (HasSpace s → HasSpace (reserved s need seat))
    × ((n : ℕ) → IsSome s.aside → IsTurned n s → IsTurned n (reserved s need seat))

abbrev pub DrawnRoom : Type 0
DrawnRoom = (s : Space) (who seat block : ℕ) → held_seat s.holders who ≡ Some seat
    → 0 < (holder_at s.holders seat).held → use_at s.uses block ≡ Free
    → KeepsRoom s (drawing s block seat)

abbrev pub UndoneRoom : Type 0
UndoneRoom = (s : Space) (who seat : ℕ) → held_seat s.holders who ≡ Some seat
    → KeepsRoom s (holder_ended s Free seat)

-- Where the new sizes are at most the old ones and what was held.
abbrev pub TakenRoom : Type 0
TakenRoom = (s : Space) (who seat : ℕ) (sizes : Sizes) → IsSoundSpace s
    → held_seat s.holders who ≡ Some seat
    → sizes.nodes ≤ s.nodes + (holder_at s.holders seat).nodes
    → sizes.attributes ≤ s.attributes + (holder_at s.holders seat).attributes
    → KeepsRoom s (record (holder_ended s Live seat)
    { nodes = sizes.nodes; attributes = sizes.attributes })

abbrev pub FreedRoom : Type 0
FreedRoom = (s : Space) (block number : ℕ) → use_at s.uses block ≡ Live
    → KeepsRoom s (freeing s block number)

abbrev pub SettledRoom : Type 0
SettledRoom = (s : Space) (number : ℕ) → IsSoundSpace s → KeepsRoom s (settling s number)

-- A checkpoint begins after the last number.
abbrev pub AsideRoom : Type 0
AsideRoom = (s : Space) (n : ℕ) → IsSoundSpace s → IsLatest n s.waiting → HasSpace s
    → HasSpace (setting_aside s) × IsTurned n (setting_aside s)

abbrev pub LaidRoom : Type 0
LaidRoom = (s : Space) (block : ℕ) → use_at s.uses block ≡ Free → KeepsRoom s (laying s block)

-- The checkpoint's layers are no more than was set aside, and what it keeps is settled.
abbrev pub SwitchedRoom : Type 0
SwitchedRoom = (s t : Space) (stay : List ℕ) (n : ℕ) → IsSwitched s t stay → HasSpace s
    → IsTurned n s → layer_count t ≤ aside_count s.aside → All (λ w. n < w.number) s.waiting
    → IsSoundSpace s → HasSpace t

-- A pin leaves all counts as they are.
abbrev pub PinnedRoom : Type 0
PinnedRoom = (s t : Space) → t ≡ record s { pins = t.pins } → KeepsRoom s t

abbrev pub UnpinnedRoom : Type 0
UnpinnedRoom = (s t : Space) (pin : ℕ) → IsUnpinned s t pin → KeepsRoom s t

-- ---- what follows

-- This needs no sound image.
abbrev pub SpaceIsWhole : Type 0
SpaceIsWhole = (s : Space) → IsSoundSpace s → IsWhole s

-- A checkpoint is refused only where blocks are kept for pins alone.
abbrev pub CheckpointsBegin : Type 0
CheckpointsBegin = (s : Space) → IsSoundSpace s → HasSpace s → count_by is_pinned s.uses ≡ 0
    → CanSetAside s

-- With no checkpoint open, and layers within their bound, the counts alone decide.
abbrev pub CountsDecide : Type 0
CountsDecide = (s : Space) (need : Need) → IsSoundSpace s → s.aside ≡ None
    → layer_count s ≤ held_bound s → PassesCounts s need → IsFree s need

-- So many draws are possible, whichever free blocks they give.
abbrev pub CanDraw : ℕ → Space → ℕ → Type 0
CanDraw zero s who = Unit {0}
CanDraw (suc n) s who = HoldsBlock s who × (0 < free_count s)
    × ((block seat : ℕ) → use_at s.uses block ≡ Free → held_seat s.holders who ≡ Some seat
    → CanDraw n (drawing s block seat) who)

-- After a reservation as many draws are possible as the number holds blocks.
abbrev pub DrawsLast : Type 0
DrawsLast = (s : Space) (who seat : ℕ) (need : Need) → IsSoundSpace s
    → held_seat s.holders who ≡ Some seat → CanReserve s need
    → CanDraw ((holder_at s.holders seat).held + need.blocks) (reserved s need seat) who

-- So many blocks can be laid, whichever free ones these are.
abbrev pub CanLay : ℕ → Space → Type 0
CanLay zero s = Unit {0}
CanLay (suc n) s = HasAside s × (0 < free_count s)
    × ((block : ℕ) → use_at s.uses block ≡ Free → CanLay n (laying s block))

-- A checkpoint that was set aside has its blocks.
abbrev pub CheckpointsLast : Type 0
CheckpointsLast = (s : Space) → IsSoundSpace s → CanSetAside s
    → CanLay (held_bound s) (setting_aside s)
