-- The ring in memory beside a log.
use Rattle.std.specs.Prelude.{◌≡◌, ◌+◌, ℕ, Some, List, ◌++◌, length, drop, slice_get}
use Rattle.fx_journal.specs.Ring.{HoldsQueue, Queued, RingState, texts}
use Rattle.fx_journal.specs.Writing.{block_at, first_bytes}
use Rattle.fx_log.specs.Ring.{bytes_in, place_in}
use Rattle.fx_pool.specs.Region.{Region}
use Rattle.fx_supers.specs.SessionLog.{MayClose, SessionLog, epoch_of, live_first, read_in}

-- The ring goes on from the start of the current superblock, under the epoch of the log. Its queue
-- is the closed blocks that are not written yet.
pub record IsRingFor (log : SessionLog) (ring : RingState) (region : Region) : Type 0 where
  pub sequence : ring.start.sequence ≡ log.supers.current.super.sequence
  pub size : ring.size ≡ log.head.super.ring
  pub epoch : ring.epoch ≡ epoch_of log.head
  pub closed : ring.closed + live_first log
      ≡ length (read_in log.head log.supers.current.origin) + length log.tail.blocks
  pub chain : ring.chain ≡ log.tail.chain
  pub text : ring.text ≡ log.tail.text
  pub queue : HoldsQueue ring region (drop log.tail.written log.tail.blocks)

-- The bytes were appended to the record bytes: these blocks may be closed, and this unfinished block
-- is left.
pub record AppendsTo (log : SessionLog) (bytes : List ℕ) (closed : List Queued) (chain : ℕ)
    (text : List ℕ) : Type 0 where
  pub may : MayClose log closed chain
  pub joined : texts closed ++ text ≡ log.tail.text ++ bytes

-- Blocks were closed and none was written: start, size and epoch stay, and as many blocks more wait
-- as are closed.
pub record IsContinued (ring new : RingState) : Type 0 where
  pub start : new.start ≡ ring.start
  pub size : new.size ≡ ring.size
  pub epoch : new.epoch ≡ ring.epoch
  pub queued : new.queued + ring.closed ≡ ring.queued + new.closed

-- The ring's first block that waits is the log's next block, with its place and its bytes.
pub record IsNextBlock (log : SessionLog) (ring : RingState) (sequence : ℕ) : Type 0 where
  pub block : Queued
  pub here : slice_get log.tail.blocks log.tail.written ≡ Some block
  pub place : block_at ring sequence ≡ place_in log.head.super.ring block
  pub bytes : first_bytes ring.epoch (drop log.tail.written log.tail.blocks)
      ≡ bytes_in (epoch_of log.head) block
