-- The answers of the ring's calls, and what a write of its next block does.
use Rattle.std.specs.Prelude.{◌≡◌, ℕ, Option, Some, None, Result, OnOk, is_ok, List, [], ◌∷◌, drop}
use Rattle.fx_disk.specs.Seen.{DiskSeen, HasWritten}
use Rattle.fx_disk.specs.declared.DiskFailed.{DiskFailed}
use Rattle.fx_jblock.specs.Block.{journal_block}
use Rattle.fx_pool.specs.Region.{Region}
use Rattle.fx_journal.specs.Ring.{RingState, Queued, HoldsQueue, live, want, without_first}
use Rattle.fx_journal.specs.Stream.{place_of}
use Rattle.fx_journal.specs.declared.ring.Wrote.{Wrote}
use Rattle.fx_journal.specs.declared.ring.Wrote.TheVariants.{Block, Nothing}
use Rattle.fx_item.specs.declared.full.Full.{Full}

-- the disk block of a sequence number
abbrev pub block_at : RingState → ℕ → ℕ
block_at ring sequence = place_of ring.size sequence

-- the bytes of the first block
abbrev pub first_bytes : ℕ → List Queued → List ℕ
first_bytes epoch [] = []
first_bytes epoch (q ∷ _) = journal_block q.sequence epoch q.chain q.text

-- The first block that was not written, of this sequence number, was written to its place by one
-- call of the disk. Where that was good the block has left the queue.
pub record WritesFirst (old new : RingState) (before after : Region) (seen now : DiskSeen)
    (sequence : ℕ) (result : Result Wrote DiskFailed) : Type 0 where
  pub made : (queue : List Queued) → HoldsQueue old before queue →
      HasWritten seen now (block_at old sequence) (first_bytes old.epoch queue) (is_ok result)
  pub written : OnOk result (new ≡ without_first old)
  pub queue : (queue : List Queued) → HoldsQueue old before queue →
      OnOk result (HoldsQueue new after (drop 1 queue))

abbrev pub wrote : Option ℕ → Wrote
wrote None = Nothing
wrote (Some sequence) = Block sequence

-- what a refused reservation says
abbrev pub counts : RingState → ℕ → Full
counts ring bytes = record { live = live ring; promised = ring.promised; want = want bytes }
