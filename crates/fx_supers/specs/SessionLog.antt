-- The log of a mounted disk over its checkpoints as plain data, what happens to it, what it keeps,
-- and what the disk has of it.
use Rattle.std.specs.Prelude.{◌≡◌, ◌⊎◌, ℕ, ◌+◌, ◌≤◌, ◌<◌, max, Bool, true, false, Some, None, IfSome, List, [], ◌++◌, length, drop}
use Rattle.fx_disk.specs.Record.{DiskRecord}
use Rattle.fx_disk.specs.Began.{BeganAs}
use Rattle.fx_disk.specs.Seen.{DiskSeen}
use Rattle.fx_super.specs.Super.{Fields, KeepsRules}
use Rattle.fx_super.specs.Chosen.{IsChosen}
use Rattle.fx_super.specs.declared.choice.Which.{Which}
use Rattle.fx_jblock.specs.declared.Start.{Start}
use Rattle.fx_journal.specs.declared.stream.StreamBlock.{StreamBlock}
use Rattle.fx_journal.specs.Ring.{Queued, first_chain}
use Rattle.fx_journal.specs.Stream.{IsStream}
use Rattle.fx_log.specs.Chosen.{start_of}
use Rattle.fx_log.specs.Log.{LogHead, LogTail, IsHead, closed_tail, flushed_tail, written_tail}
use Rattle.fx_log.specs.Ring.{BeganWith}
use Rattle.fx_supers.specs.Supers.{Origin, SuperCut, Supers, HasSupers, next_supers, only_supers, put_supers}
use Rattle.fx_supers.specs.Cells.{AreClosedBlocks, HoldsRing}

-- The log of a disk of so many blocks, which was read after so many of its calls. The blocks of its
-- tail are all that were closed since: none is ever cut off, and those that are `written` are
-- written or given up.
pub record SessionLog : Type 0 where
  pub size : ℕ
  pub from : ℕ
  pub head : LogHead
  pub tail : LogTail
  pub supers : Supers

-- the epoch of the blocks that are closed
abbrev pub epoch_of : LogHead → ℕ
epoch_of head = head.super.generation + 1

-- the first of the closed blocks in a stream that begins so, and what was read and belongs to it
abbrev pub first_in : Origin → ℕ
first_in None = 0
first_in (Some n) = n

abbrev pub read_in : LogHead → Origin → List StreamBlock
read_in head None = head.read
read_in head (Some n) = []

-- the first block that is live
abbrev pub live_first : SessionLog → ℕ
live_first log = first_in log.supers.current.origin

-- ---- what happens to it

-- Nothing was appended since it was read, and these are the superblocks.
abbrev pub bare_session : (size from : ℕ) → LogHead → Supers → SessionLog
bare_session size from head supers = record {
  size = size;
  from = from;
  head = head;
  tail = record { blocks = []; chain = head.place.chain; text = []; written = 0; settled = 0 };
  supers = supers;
}

-- The superblock that was read stands in this one of the two blocks.
abbrev pub new_session : (size from : ℕ) → LogHead → Which → SessionLog
new_session size from head slot = bare_session size from head (only_supers head.super slot)

-- Further blocks are closed, which leaves this chain and this unfinished block.
abbrev pub closed_session : SessionLog → List Queued → ℕ → List ℕ → SessionLog
closed_session log closed chain text =
    record log { tail = closed_tail log.tail closed chain text }

-- The next block is written.
abbrev pub written_session : SessionLog → SessionLog
written_session log = record log { tail = written_tail log.tail }

-- The disk is flushed: what is written is settled.
abbrev pub flushed_session : SessionLog → SessionLog
flushed_session log = record log { tail = flushed_tail log.tail }

-- The write of the next block, and a flush, by their answers.
abbrev pub tried_session : Bool → SessionLog → SessionLog
tried_session true log = written_session log
tried_session false log = log

abbrev pub synced_session : Bool → SessionLog → SessionLog
synced_session true log = flushed_session log
synced_session false log = log

-- A superblock is written to the other block, by a good write or a failed one.
abbrev pub put_session : SessionLog → SuperCut → Bool → SessionLog
put_session log cut good = record log { supers = put_supers log.supers cut good }

-- The disk is flushed after a good write of the superblock: it is the current one, and the blocks
-- before its start are given up.
abbrev pub given_up_tail : LogTail → ℕ → LogTail
given_up_tail t first =
    record t { written = max t.written first; settled = max t.written first }

abbrev pub finished_session : SessionLog → SuperCut → SessionLog
finished_session log cut = record log {
  tail = given_up_tail log.tail (first_in cut.origin);
  supers = next_supers log.supers cut;
}

-- ---- where streams begin

-- The stream begins before this one of the blocks, and refuses all that was there at the mount.
pub record BeginsBefore (epoch : ℕ) (place : Start) (blocks : List Queued) (chain n : ℕ)
    (start : Start) : Type 0 where
  pub within : n ≤ length blocks
  pub sequence : start.sequence ≡ place.sequence + n
  pub chain_is : start.chain ≡ first_chain (drop n blocks) chain
  pub floor : start.floor ≡ epoch

-- This is the start of the stream.
abbrev pub IsStartOf : LogHead → List Queued → (chain : ℕ) → Origin → Start → Type 0
IsStartOf head blocks chain None start = start ≡ start_of head.super
IsStartOf head blocks chain (Some n) start =
    BeginsBefore (epoch_of head) head.place blocks chain n start

-- Each block of the stream has a place of its own.
abbrev pub HasPlacesFrom : LogHead → List Queued → Origin → Type 0
HasPlacesFrom head blocks None = length head.read + length blocks ≤ head.super.ring
HasPlacesFrom head blocks (Some n) = length blocks ≤ n + head.super.ring

-- A stream that begins so begins no earlier than the other one.
abbrev pub IsNoEarlier : Origin → Origin → Type 0
IsNoEarlier None later = Unit {0}
IsNoEarlier (Some n) None = ⊥
IsNoEarlier (Some n) (Some m) = n ≤ m

-- The superblock admits the blocks that are closed, or none is closed and it is the one of the
-- mount.
abbrev pub AdmitsClosed : LogHead → List Queued → Origin → Fields → Type 0
AdmitsClosed head blocks None f = (epoch_of head ≤ f.generation)
    ⊎ ((blocks ≡ []) × (f ≡ head.super))
AdmitsClosed head blocks (Some n) f = epoch_of head ≤ f.generation

-- ---- what it keeps

-- The superblock is one of this log: of a disk of its size and ring, with a start that is its own.
pub record IsCutOf (head : LogHead) (blocks : List Queued) (chain : ℕ) (cut : SuperCut) : Type 0
  where
    pub rules : KeepsRules cut.super
    pub ring : cut.super.ring ≡ head.super.ring
    pub blocks_are : cut.super.blocks ≡ head.super.blocks
    pub admits : AdmitsClosed head blocks cut.origin cut.super
    pub begins : IsStartOf head blocks chain cut.origin (start_of cut.super)
    pub within : first_in cut.origin ≤ length blocks

-- It may come after the current one.
pub record MayCome (current cut : SuperCut) : Type 0 where
  pub newer : current.super.generation < cut.super.generation
  pub later : IsNoEarlier current.origin cut.origin

pub record IsSessionLog (log : SessionLog) : Type 0 where
  pub head : IsHead log.size log.head.super log.head.read log.head.place
  pub closed : AreClosedBlocks log.head.super.ring (epoch_of log.head) log.head.place
      log.tail.blocks log.tail.chain
  pub fewer : log.tail.settled ≤ log.tail.written
  pub most : log.tail.written ≤ length log.tail.blocks
  pub reached : live_first log ≤ log.tail.written
  pub places : HasPlacesFrom log.head log.tail.blocks log.supers.current.origin
  pub current : IsCutOf log.head log.tail.blocks log.tail.chain log.supers.current
  pub coming : (cut : SuperCut) → log.supers.coming ≡ Some cut →
      IsCutOf log.head log.tail.blocks log.tail.chain cut × MayCome log.supers.current cut

-- Further blocks may be closed: they go on from the ones before, and each has a place of its own.
-- The superblock of the mount was raised before.
pub record MayClose (log : SessionLog) (more : List Queued) (chain : ℕ) : Type 0 where
  pub closed : AreClosedBlocks log.head.super.ring (epoch_of log.head) log.head.place
      (log.tail.blocks ++ more) chain
  pub first : first_chain more chain ≡ log.tail.chain
  pub places : HasPlacesFrom log.head (log.tail.blocks ++ more) log.supers.current.origin
  pub raised : epoch_of log.head ≤ log.supers.current.super.generation

-- The superblock may be written: it is one of this log, and none is coming, or this one is.
pub record MayPut (log : SessionLog) (cut : SuperCut) : Type 0 where
  pub is : IsCutOf log.head log.tail.blocks log.tail.chain cut
  pub comes : MayCome log.supers.current cut
  pub one : (log.supers.coming ≡ None) ⊎ (log.supers.coming ≡ Some cut)

-- It is the coming one, and the last write of it was good.
pub record IsMade (log : SessionLog) (cut : SuperCut) : Type 0 where
  pub coming : log.supers.coming ≡ Some cut
  pub made : log.supers.made ≡ true

-- ---- what the disk has of it

-- The disk reads as it was read: this superblock in this one of the two blocks, and the stream.
pub record IsReadFrom (head : LogHead) (slot : Which) (r : DiskRecord) : Type 0 where
  pub chosen : IsChosen r.contents slot head.super
  pub stream : IsStream r.contents head.super.ring head.super.generation (start_of head.super)
      head.read head.place

-- This record of a disk, which began as this image, has the log.
pub record HasSession (log : SessionLog) (image : List (List ℕ)) (r : DiskRecord) : Type 0 where
  pub began : BeganWith r log.from log.head.super image log.head.read log.head.place
  pub supers : HasSupers log.supers r
  pub ring : HoldsRing r log.from log.head.super.ring (epoch_of log.head)
      log.tail.blocks (live_first log) log.tail.written log.tail.settled

-- The record has the log, whichever image the disk began as.
pub record KeepsLog (log : SessionLog) (r : DiskRecord) : Type 0 where
  pub size : length r.entry ≡ log.size
  pub since : log.from ≤ length r.calls
  pub has : (image : List (List ℕ)) → BeganAs r log.from image → HasSession log image r

-- A mounted disk of which this is seen has the log.
pub record HoldsLog (log : SessionLog) (seen : DiskSeen) : Type 0 where
  pub log_is : IsSessionLog log
  pub size : seen.size ≡ log.size
  pub told : IfSome seen.told (KeepsLog log)
