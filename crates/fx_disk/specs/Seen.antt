-- What is seen of a disk, and one word for what calls do to it.
use Rattle.std.specs.Prelude.{◌≡◌, ◌⊎◌, ℕ, ◌+◌, ◌<◌, ◌≤◌, ◌^◌, min, Bool, true, false, Option, List, length}
use Rattle.std.specs.Option.{IfSome}
use Rattle.fx_base.specs.Causes.{RoseUnless, CountsFault}
use Rattle.fx_disk.specs.Record.{DiskRecord, call_at}
use Rattle.fx_disk.specs.Loose.{HasFailed, IsGoodFlush}
use Rattle.fx_disk.specs.Steps.{Writes, Flushes, MadeOrNot}
use Rattle.fx_disk.specs.Longer.{Extends}

-- A disk as its callers see it.
pub record DiskSeen : Type 0 where
  -- the number of blocks
  pub size : ℕ
  -- the image at entry, the calls made since and the contents now, where the disk tells them
  pub told : Option DiskRecord
  -- the writes and flushes made
  pub calls : ℕ
  -- the reads made
  pub reads : ℕ
  -- the calls that failed; the count stands still at its end
  pub faults : ℕ
  -- whether the write or flush that was last asked for was made
  pub last_made : Bool

-- The counts stay in their ranges.
pub record IsCounted (seen : DiskSeen) : Type 0 where
  pub few_blocks : seen.size < 2 ^ 32
  pub few_calls : seen.calls ≤ 2 ^ 63
  pub few_reads : seen.reads ≤ 2 ^ 63
  pub few_faults : seen.faults < 2 ^ 64

-- What any calls leave alone: the size is the same, what is told is extended, and no count falls.
pub record GoesOn (before after : DiskSeen) : Type 0 where
  pub size : after.size ≡ before.size
  pub told : Extends before.told after.told
  pub calls : before.calls ≤ after.calls
  pub reads : before.reads ≤ after.reads
  pub faults : before.faults ≤ after.faults

-- The disk was read, and nothing else was asked of it.
pub record HasOnlyRead (before after : DiskSeen) : Type 0 where
  pub size : after.size ≡ before.size
  pub told : after.told ≡ before.told
  pub calls : after.calls ≡ before.calls
  pub last_made : after.last_made ≡ before.last_made
  pub reads : before.reads ≤ after.reads
  pub faults : before.faults ≤ after.faults

-- Any calls, of which the last was good or not and each earlier one was good.
pub record HasCalled (before after : DiskSeen) (good : Bool) : Type 0 where
  pub goes : GoesOn before after
  pub faults : RoseUnless good before.faults after.faults

-- One read. Below the limit it is made, whether it fails or not. At the limit none is made.
pub record HasRead (before after : DiskSeen) (good : Bool) : Type 0 where
  pub reads : after.reads ≡ min (before.reads + 1) (2 ^ 63)
  pub grows : before.reads ≤ after.reads
  pub limit : good ≡ true → before.reads < 2 ^ 63
  pub faults : CountsFault good before.faults after.faults
  pub size : after.size ≡ before.size
  pub told : after.told ≡ before.told
  pub calls : after.calls ≡ before.calls
  pub last_made : after.last_made ≡ before.last_made

-- One write, made or not.
pub record HasWritten (before after : DiskSeen) (at : ℕ) (bytes : List ℕ) (good : Bool) : Type 0
  where
    pub made : MadeOrNot before.calls after.calls after.last_made good
        (Writes before.told after.told at bytes good) (after.told ≡ before.told)
    pub faults : CountsFault good before.faults after.faults
    pub size : after.size ≡ before.size
    pub reads : after.reads ≡ before.reads

-- One flush, made or not.
pub record HasFlushed (before after : DiskSeen) (good : Bool) : Type 0 where
  pub made : MadeOrNot before.calls after.calls after.last_made good
      (Flushes before.told after.told good) (after.told ≡ before.told)
  pub faults : CountsFault good before.faults after.faults
  pub size : after.size ≡ before.size
  pub reads : after.reads ≡ before.reads

-- The disk has made so many calls, and the last one is a flush that was good.
pub record IsFlushedBy (calls : ℕ) (seen : DiskSeen) : Type 0 where
  pub last : ℕ
  pub counted : calls ≡ last + 1
  pub made : seen.calls ≡ calls
  pub flush : IfSome seen.told (λ r. IsGoodFlush (call_at r.calls last))

-- The disk has made a call, and the last one failed.
pub record EndsInFailure (seen : DiskSeen) : Type 0 where
  pub some : 0 < seen.calls
  pub failed : IfSome seen.told
      (λ r. (last : ℕ) × (length r.calls ≡ last + 1) × HasFailed (call_at r.calls last))

-- The write or flush that was last asked for was not made, or it is the last call and failed.
abbrev pub HasFailedLast : DiskSeen → Type 0
HasFailedLast seen = (seen.last_made ≡ false) ⊎ EndsInFailure seen
