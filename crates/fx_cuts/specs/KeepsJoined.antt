-- All facts that a mounted state keeps about what a stop leaves, at every moment since the mount began.
use Rattle.std.specs.Prelude.{◌≡◌, ◌⊎◌, ℕ, ◌+◌, ◌≤◌, ◌<◌, false, Some, List, ◌++◌, length, map, slice_get}
use Rattle.std.specs.Option.{IfSome}
use Rattle.fx_disk.specs.Record.{DiskRecord, LeftNow, cell_after, cell_now}
use Rattle.fx_disk.specs.Always.{Always}
use Rattle.fx_disk.specs.Seen.{DiskSeen}
use Rattle.fx_item.specs.Overlay.{Point}
use Rattle.fx_plain.specs.Tree.{Tree}
use Rattle.fx_contents.specs.Points.{Points}
use Rattle.fx_uses.specs.Live.{txn_of, AreNumbered}
use Rattle.fx_uses.specs.Uses.{AreUses, CellsHold, last, bytes_now, image_block}
use Rattle.fx_kept.specs.Kept.{IsKeptIn}
use Rattle.fx_kept.specs.Chance.{HasMeantForms}
use Rattle.fx_cuts.specs.Joined.{JoinedState, NumberedItems, StandsAfter, HasLiveFiles}
use Rattle.fx_cuts.specs.Images.{ImageMeanings, Mark, LeavesPrefix, IsSoundFrom}

-- The first mark is of what the mount kept, numbers and calls rise, the last one is of what is settled,
-- and all were made by now. The same of base counts, from the mount's to the one that is settled.
pub record AreMarks (kept from settled calls : ℕ) (marks : List Mark) : Type 0 where
  pub first : slice_get marks 0 ≡ Some (record { number = kept; calls = from })
  pub rise : (i : ℕ) (a b : Mark) → slice_get marks i ≡ Some a → slice_get marks (i + 1) ≡ Some b →
      (a.number ≤ b.number) × (a.calls < b.calls)
  pub latest : (i : ℕ) (mark : Mark) → slice_get marks i ≡ Some mark → i + 1 ≡ length marks →
      mark.number ≡ settled
  pub settled_by : (i : ℕ) (mark : Mark) → slice_get marks i ≡ Some mark → mark.number ≤ settled
  pub by_now : (i : ℕ) (mark : Mark) → slice_get marks i ≡ Some mark → mark.calls ≤ calls

-- What is kept whatever the disk tells.
pub record KeepsState (w : ImageMeanings) (s : JoinedState) (kept from calls : ℕ)
    (marks bases : List Mark) : Type 0 where
  pub used : AreUses s.blocks
  pub txns_are : s.blocks.txns ≡ map txn_of s.txns
  pub data_from : s.blocks.first_data ≡ w.first_data
  pub named : (k : ℕ) → s.blocks.settled ≤ k → k ≤ last s.blocks → HasLiveFiles s k
  pub marked : AreMarks kept from s.blocks.settled calls marks
  pub noted : AreMarks s.blocks.base from s.based calls bases
  pub flushed : s.based ≤ s.blocks.firm

-- What a disk that tells this holds now: the cells are as the uses want them, and what was put in the
-- blocks stands for the tree after each number that an image may keep.
pub record HoldsTrees (w : ImageMeanings) (trees : ℕ → Tree) (s : JoinedState) (r : DiskRecord)
    : Type 0 where
  pub held : CellsHold w.sum s.blocks r
  pub trees_are : (k : ℕ) → s.blocks.settled ≤ k → k ≤ last s.blocks →
      StandsAfter s trees k (bytes_now r)

-- That, and what it left at each moment since the mount began.
pub record HoldsState (w : ImageMeanings) (trees : ℕ → Tree) (from : ℕ) (s : JoinedState)
    (marks bases : List Mark) (r : DiskRecord) : Type 0 where
  pub now : HoldsTrees w trees s r
  pub began : (b : ℕ) → cell_after r from b ≡ w.before b
  pub always : Always (LeavesPrefix w trees (last s.blocks) marks bases) from r

-- All of it, of a disk as it is seen. `trees` are the trees of the history, by their numbers; `kept` is
-- the number that the mount kept, and `from` the calls before it.
pub record KeepsJoined (w : ImageMeanings) (trees : ℕ → Tree) (kept from : ℕ) (s : JoinedState)
    (marks bases : List Mark) (seen : DiskSeen) : Type 0 where
  pub plain : KeepsState w s kept from seen.calls marks bases
  pub told : IfSome seen.told (HoldsState w trees from s marks bases)

-- The histories have the same trees up to the number.
abbrev pub HasTreesOf : ℕ → (trees later : ℕ → Tree) → Type 0
HasTreesOf most trees later = (k : ℕ) → k ≤ most → later k ≡ trees k

-- ---- while a mount drops transactions

-- Past superblocks and ring no block is loose, and each holds what the image had.
abbrev pub HoldsPast : ℕ → List (List ℕ) → DiskRecord → Type 0
HoldsPast first_data entry r = (b : ℕ) → first_data ≤ b → b < length r.entry →
    ((cell_now r b).failed ≡ false) × ((cell_now r b).loose ≡ false) ×
    ((cell_now r b).bytes ≡ image_block entry b)

-- The image at entry keeps the transactions of the state, of those and the ones beyond them.
pub record DropsBeyond (w : ImageMeanings) (s : JoinedState) (beyond : NumberedItems)
    (entry : List (List ℕ)) (r : DiskRecord) : Type 0 where
  pub size : length entry ≡ length r.entry
  pub past : HoldsPast w.first_data entry r
  pub kept : IsKeptIn w.sum w.first_data entry s.blocks.base (s.txns ++ beyond) (last s.blocks)

-- Each image left now shows the transactions of the state, or those that were found, which go on beyond
-- them, and is sound.
abbrev pub ShowsFound : ImageMeanings → JoinedState → NumberedItems → DiskRecord → Type 0
ShowsFound w s beyond r = (image : List (List ℕ)) → LeftNow r image →
    HasMeantForms w.forms w.before (cell_now r) w.generation image →
    (points : Points) × (txns : NumberedItems) × w.Shows image s.blocks.base points txns ×
    ((p : Point) → points p ≡ s.opening p) × ((txns ≡ s.txns) ⊎ (txns ≡ s.txns ++ beyond)) ×
    IsSoundFrom w s.blocks.settled image s.blocks.base points txns

pub record KeepsMounting (w : ImageMeanings) (trees : ℕ → Tree) (kept from : ℕ) (s : JoinedState)
    (beyond : NumberedItems) (marks bases : List Mark) (seen : DiskSeen) : Type 0 where
  pub plain : KeepsState w s kept from seen.calls marks bases
  pub first : s.based ≡ s.blocks.base
  pub whole : s.blocks.settled ≡ last s.blocks
  pub numbered : AreNumbered s.blocks.base (map txn_of (s.txns ++ beyond))
  pub told : IfSome seen.told (λ r. HoldsState w trees from s marks bases r ×
      ((entry : List (List ℕ)) × DropsBeyond w s beyond entry r))
