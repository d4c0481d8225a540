-- The state of a mounted disk, and what its calls do to it.
use Rattle.std.specs.Prelude.{◌≡◌, ◌≢◌, ℕ, ◌+◌, ◌<◌, ◌≤◌, All, Bool, true, false, List, [], Result, Ok, Err, length}
use Rattle.std.specs.Option.{IfSome}
use Rattle.fx_base.specs.Causes.{Rose}
use Rattle.fx_item.specs.declared.full.Full.{Full}
use Rattle.fx_plain.specs.Tree.{Tree}
use Rattle.fx_history.specs.declared.entry.Entry.{Entry}
use Rattle.fx_history.specs.declared.outcome.EndKind.{EndKind}
use Rattle.fx_history.specs.declared.outcome.EndKind.TheVariants as ends
use Rattle.fx_history.specs.History.{settle}
use Rattle.fx_disk.specs.Record.{DiskRecord}
use Rattle.fx_disk.specs.Seen.{DiskSeen, GoesOn, HasCalled, HasFailedLast, IsFlushedBy}
use Rattle.fx_log.specs.Raising.{ChoosesSince, ChoosesNext}
use Rattle.fx_image.specs.Standing.{Transactions, StandsFor, items_after}
use Rattle.fx_image.specs.Prefix.{KeepsPrefix, KeepsAll}
use Rattle.fx_store.specs.Line.{Syncs}

-- What is seen of a mounted disk: the disk, its count of calls at the mount, the number of the last
-- commit at the mount, the transactions of the image, the commits made since, the ring's blocks,
-- how many of them are live (through the unfinished one, plus one where that holds bytes), and how
-- many wait to be written.
pub record State (Device : Type 0) : Type 0 where
  pub disk : Device
  pub from : ℕ
  pub base : ℕ
  pub txns : Transactions
  pub history : List Entry
  pub ring : ℕ
  pub live : ℕ
  pub waiting : ℕ

-- The transactions stand for this tree, without what files hold.
abbrev pub Opens : Transactions → Tree → Type 0
Opens txns tree = StandsFor (items_after txns) tree

-- ---- what a stop leaves

-- What a stop leaves of the disk, at each moment since the mount: the superblock of the mount or
-- the one before it, and the tree after a prefix of the history with all that was settled.
pub record KeepsImages (size from : ℕ) (txns : Transactions) (base : ℕ) (history : List Entry)
    (r : DiskRecord) : Type 0 where
  pub super : ChoosesSince from r
  pub next : ChoosesNext from r
  pub prefix : (opening : Tree) → Opens txns opening → KeepsPrefix size from opening base history r

-- The same of a disk, with these commits since the mount.
abbrev pub LeavesImages : {Device : Type 0} → DiskSeen → State Device → List Entry → Type 0
LeavesImages seen s history =
    IfSome seen.told (KeepsImages seen.size s.from s.txns s.base history)

-- And no entry is settled by a later call than were made.
pub record LeavesSettled {Device : Type 0} (seen : DiskSeen) (s : State Device)
    (history : List Entry) : Type 0 where
  pub images : LeavesImages seen s history
  pub by_now : All (λ entry. entry.settled ≤ seen.calls) history

-- Every image left now has all of the history.
abbrev pub KeepsWhole : (size from : ℕ) → Transactions → (base : ℕ) → List Entry → DiskRecord
    → Type 0
KeepsWhole size from txns base history r =
    (opening : Tree) → Opens txns opening → KeepsAll size from opening base history r

-- The same of a disk, with these commits since the mount.
abbrev pub LeavesWhole : {Device : Type 0} → DiskSeen → State Device → List Entry → Type 0
LeavesWhole seen s history =
    IfSome seen.told (KeepsWhole seen.size s.from s.txns s.base history)

-- Whatever a stop leaves of a disk on which a mount did not end has the chosen superblock of
-- before, or that of the next generation, and stands for the tree that it was.
pub record LeavesOpening (from : ℕ) (seen : DiskSeen) : Type 0 where
  pub super : IfSome seen.told (ChoosesSince from)
  pub prefix : (opening : Tree) (base : ℕ)
      → IfSome seen.told (KeepsPrefix seen.size from opening base [])

-- ---- frames

-- The mount is the same one.
pub record SameMount {Device : Type 0} (old new : State Device) : Type 0 where
  pub from : new.from ≡ old.from
  pub base : new.base ≡ old.base
  pub txns : new.txns ≡ old.txns
  pub ring : new.ring ≡ old.ring

-- Each block that became live or waited, waits or was written by one call of the disk. At most so
-- many calls more were made.
pub record WritesEach {Device : Type 0} (more : ℕ) (before after : DiskSeen)
    (old new : State Device) : Type 0 where
  pub each : before.calls + old.waiting + new.live ≤ after.calls + new.waiting + old.live
  pub most : after.calls + new.waiting + old.live ≤ before.calls + old.waiting + new.live + more

-- What a line leaves: the mount, what the disk had told, and the blocks that it did not write. At
-- most so many calls more were made.
pub record KeepsMount {Device : Type 0} (more : ℕ) (before after : DiskSeen)
    (old new : State Device) : Type 0 where
  pub mount : SameMount old new
  pub disk : GoesOn before after
  pub each : WritesEach more before after old new

-- What a sync and each part of one leaves, whether its last call was good or not: the mount, the
-- live blocks, and the blocks that it did not write.
pub record KeepsLive {Device : Type 0} (before after : DiskSeen) (old new : State Device)
    (good : Bool) : Type 0 where
  pub mount : SameMount old new
  pub live : new.live ≡ old.live
  pub each : WritesEach 1 before after old new
  pub called : HasCalled before after good

-- ---- what calls do

-- The first block that waited was written by one call.
pub record WroteOne {Device : Type 0} (before after : DiskSeen) (old new : State Device)
    : Type 0 where
  pub waiting : new.waiting + 1 ≡ old.waiting
  pub calls : after.calls ≡ before.calls + 1

-- What the write of the first block that waits did, by its answer: where none waits no call was
-- made, and where the call that was last asked for failed the block still waits.
abbrev pub WriteDid : {Device Fault : Type 0} → Result Bool Fault → DiskSeen → DiskSeen
    → State Device → State Device → Type 0
WriteDid (Ok true) before after old new = WroteOne before after old new
WriteDid (Ok false) before after old new =
    (old.waiting ≡ 0) × (new.waiting ≡ 0) × (new.disk ≡ old.disk)
WriteDid (Err fault) before after old new = (new.waiting ≡ old.waiting) × HasFailedLast after

-- Every block that waited was written by one call.
pub record WroteAll {Device : Type 0} (before after : DiskSeen) (old new : State Device)
    : Type 0 where
  pub waiting : new.waiting ≡ 0
  pub calls : after.calls ≡ before.calls + old.waiting

-- Every block that waited was written by one call, and then the disk was flushed by one call.
pub record FlushedAll {Device : Type 0} (before after : DiskSeen) (old new : State Device)
    : Type 0 where
  pub waiting : new.waiting ≡ 0
  pub calls : after.calls ≡ before.calls + old.waiting + 1
  pub flushed : IsFlushedBy after.calls after

-- Each commit is settled, every image left now has all of the history, and every block that waited
-- was written by one call, before the disk was flushed.
pub record HasSettled {Device : Type 0} (before after : DiskSeen) (old new : State Device)
    : Type 0 where
  pub history : new.history ≡ settle after.calls old.history
  pub whole : LeavesWhole after new new.history
  pub flushed : FlushedAll before after old new

-- What a sync did, by whether it was good: a fault is that of the call which was last asked for,
-- and then nothing is settled.
abbrev pub SyncDid : {Device : Type 0} → Bool → DiskSeen → DiskSeen → State Device → State Device
    → Type 0
SyncDid true before after old new = HasSettled before after old new
SyncDid false before after old new = (new.history ≡ old.history) × HasFailedLast after

-- What a line takes of the ring, which no line gives back. Only a commit takes any, and at most one
-- block. A line that is refused as full tells how many blocks were live, and there was no place for
-- one more; where one commits there was.
pub record TakesRing {Device : Type 0} (old new : State Device) (kind : EndKind) : Type 0 where
  pub full : (full : Full) → kind ≡ ends.Full full
      → (full ≡ record { live = old.live; promised = 0; want = 1 }) × (old.ring < old.live + 2)
  pub room : kind ≡ ends.Committed → old.live + 2 ≤ old.ring
  pub least : old.live ≤ new.live
  pub most : new.live + length old.history ≤ old.live + length new.history
  pub stays : kind ≢ ends.Committed → new.live ≡ old.live

-- A line that is no sync leaves the disk alone, and what it takes of the ring waits.
pub record LeavesDisk {Device : Type 0} (old new : State Device) : Type 0 where
  pub disk : new.disk ≡ old.disk
  pub waits : new.waiting + old.live ≡ old.waiting + new.live

-- A sync ends as synced, where all was written and flushed, or as a fault of the disk.
pub record EndsSync {Device : Type 0} (before after : DiskSeen) (old new : State Device)
    (kind : EndKind) : Type 0 where
  pub told : Syncs kind
  pub synced : (calls : ℕ) → kind ≡ ends.Synced calls
      → (calls ≡ after.calls) × FlushedAll before after old new

-- Only a line that tells of a fault of the disk met one, and it tells how many there were by then.
pub record TellsFaults (before after : DiskSeen) (kind : EndKind) : Type 0 where
  pub fault : (count : ℕ) → kind ≡ ends.DeviceFault count
      → (count ≡ after.faults) × Rose before.faults after.faults × HasFailedLast after
  pub none : ((count : ℕ) → kind ≢ ends.DeviceFault count) → after.faults ≡ before.faults
