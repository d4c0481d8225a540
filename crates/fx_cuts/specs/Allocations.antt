-- What the items of a transaction say of blocks by allocations, and by the extents that it writes.
use Rattle.std.specs.Prelude.{◌≡◌, ℕ, true, false, is_some, Option, Some, None, IsSome, List, map, slice_get}
use Rattle.fx_item.specs.Item.{PlainItem}
use Rattle.fx_item.specs.Overlay.{AtDeviceBlock, Entry, says}
use Rattle.fx_verify.specs.Kept.{written_by, is_freed_by}
use Rattle.fx_contents.specs.Points.{Points}
use Rattle.fx_contents.specs.Allocated.{AreAllocated}
use Rattle.fx_uses.specs.Live.{put_in, txn_of}
use Rattle.fx_uses.specs.Uses.{last}
use Rattle.fx_cuts.specs.Joined.{JoinedState, NumberedItems, points_at}

-- A block that the items take is one that they write, with its sum; one that they give up they free, and do
-- not write; and of any other block they say nothing.
pub record TellsBlocks (items : List PlainItem) : Type 0 where
  pub taken : (b : ℕ) (entry : Entry) → says items (AtDeviceBlock b) ≡ Some (Some entry) →
      IsSome (put_in b (written_by items))
  pub given_up : (b : ℕ) → says items (AtDeviceBlock b) ≡ Some None →
      (put_in b (written_by items) ≡ None) × (is_freed_by items b ≡ true)
  pub silent : (b : ℕ) → says items (AtDeviceBlock b) ≡ None →
      (put_in b (written_by items) ≡ None) × (is_freed_by items b ≡ false)

-- each transaction does
abbrev pub TellBlocks : NumberedItems → Type 0
TellBlocks txns = (i : ℕ) (t : ℕ × List PlainItem) → slice_get txns i ≡ Some t → TellsBlocks t.1

-- The blocks that are live are those that the items have taken.
abbrev pub AreTakenIn : Points → (ℕ → Option ℕ) → Type 0
AreTakenIn m live = (b : ℕ) → is_some (live b) ≡ is_some (m (AtDeviceBlock b))

-- The transactions of a state all do, what was live before them was taken, and after them the blocks that
-- are taken are those in which blocks of files lie.
pub record TellsState (s : JoinedState) : Type 0 where
  pub txns_are : s.blocks.txns ≡ map txn_of s.txns
  pub tell : TellBlocks s.txns
  pub first : AreTakenIn s.opening s.blocks.first
  pub allocated : AreAllocated (points_at s (last s.blocks))
