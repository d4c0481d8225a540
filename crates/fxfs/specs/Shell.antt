-- What `shell` does.
use Rattle.std.specs.Prelude.{◌≡◌, ◌≢◌, ◌⊎◌, ℕ, ◌<◌, ◌≤◌, ◌+◌, ◌-◌, ◌^◌, min, All, List, Option, Some, length, slice_get, sum_by}
use Rattle.std.specs.Option.{IfSome}
use Rattle.fx_base.specs.Causes.{Rose}
use Rattle.fx_disk.specs.Record.{DiskRecord, call_at}
use Rattle.fx_disk.specs.Loose.{IsGoodFlush}
use Rattle.fx_disk.specs.Seen.{DiskSeen, GoesOn, HasOnlyRead, HasFailedLast}
use Rattle.fx_log.specs.Raising.{ChoosesSince, ChoosesNext}
use Rattle.fx_image.specs.Standing.{Transactions}
use Rattle.fx_image.specs.Prefix.{KeepsPrefix}
use Rattle.fx_io.specs.Told.{GivesAtMost}
use Rattle.fx_io.specs.Seen.{SinkGoesOn, SinkSeen, SourceGoesOn}
use Rattle.fx_plain.specs.Tree.{Tree}
use Rattle.fx_item.specs.declared.full.Full.{Full}
use Rattle.fx_script.specs.declared.script.Task.{Task}
use Rattle.fx_history.specs.declared.entry.Entry.{Entry}
use Rattle.fx_history.specs.declared.outcome.EndKind.TheVariants as ends
use Rattle.fx_history.specs.Outcome.{LineEnd}
use Rattle.fx_history.specs.Transcript.{Session}
use Rattle.fx_store.specs.Line.{flushes}
use Rattle.fx_store.specs.Mounted.{State, Opens, LeavesOpening}
use Rattle.fx_mount.specs.declared.fault.MountFault.{MountFault}
use Rattle.fx_mount.specs.declared.fault.MountFault.TheVariants as mounts
use Rattle.fx_mount.specs.Found.{HasReadWell, HasRing, IsMountedAt, IsTold}
use Rattle.fxfs.specs.declared.ended.Stop.{Stop}
use Rattle.fxfs.specs.declared.ended.Stop.TheVariants as stops
use Rattle.fxfs.specs.declared.shell.TheConstants.{MAX_INPUT}
use Rattle.fxfs.specs.Outside.{Outside, End, IsStopped}
use Rattle.fxfs.specs.Lines.{Spells, IsScript, IsNoScript, Finishes, IsDurable, IsNotDurable, Tells, TellsUnsynced, synced_in, faults_in}

-- No line was run, and the disk was read at most, with no fault. Every image left stands for the
-- tree that it was.
pub record HasNotRun (before after : Outside) (end : End) : Type 0 where
  pub stopped : IsStopped before.sink after.sink end
  pub disk : HasReadWell before.disk after.disk
  pub opening : LeavesOpening before.disk.calls after.disk

-- The source spells lines, and the disk was not mounted, for it failed in that: a read failed and
-- nothing was written, or the call that was last asked for was not made, or is the last one and
-- failed. Every image left stands for the tree that it was.
pub record HasNotMounted (before after : Outside) (end : End) : Type 0 where
  pub stopped : IsStopped before.sink after.sink end
  pub spelled : IsScript before.source after.source
  pub calls : after.disk.calls ≤ before.disk.calls + 2
  pub failed : HasOnlyRead before.disk after.disk ⊎ HasFailedLast after.disk
  pub opening : LeavesOpening before.disk.calls after.disk

-- How many lines ended at a fault of the disk, and the counts that they tell: its count of faults
-- rose as often, unless it stands at its end, and each of them tells that it rose since entry and
-- since the one before.
pub record AreFaults (before after : ℕ) (outcomes : List LineEnd) : Type 0 where
  pub counted : min (before + faults_in outcomes) (2 ^ 64 - 1) ≤ after
  pub each : (i : ℕ) (end : LineEnd) (count : ℕ) → slice_get outcomes i ≡ Some end
      → end.kind ≡ ends.DeviceFault count → Rose before count × (count ≤ after)
  pub rising : (i j : ℕ) (former latter : LineEnd) → i < j → slice_get outcomes i ≡ Some former
      → slice_get outcomes j ≡ Some latter
      → (earlier later : ℕ) → former.kind ≡ ends.DeviceFault earlier
      → latter.kind ≡ ends.DeviceFault later → Rose earlier later

-- A sync that was done once the disk had made the first calls, and before it had made more than the
-- last: the last of so many calls is a flush that was good.
pub record IsSync (first last : ℕ) (told : Option DiskRecord) (calls : ℕ) : Type 0 where
  pub later : first < calls
  pub within : calls ≤ last
  pub flushed : (place : ℕ) → calls ≡ place + 1
      → IfSome told (λ r. IsGoodFlush (call_at r.calls place))

-- Each count of calls that a line `sync` tells is that of a sync, and a later one than those told
-- before.
pub record AreSyncs (first last : ℕ) (told : Option DiskRecord) (outcomes : List LineEnd) : Type 0
  where
    pub each : (i : ℕ) (end : LineEnd) (calls : ℕ) → slice_get outcomes i ≡ Some end
        → end.kind ≡ ends.Synced calls → IsSync first last told calls
    pub rising : (i j : ℕ) (former latter : LineEnd) → i < j → slice_get outcomes i ≡ Some former
        → slice_get outcomes j ≡ Some latter
        → (earlier later : ℕ) → former.kind ≡ ends.Synced earlier → latter.kind ≡ ends.Synced later
        → earlier < later

-- how many of the lines are `sync`
abbrev pub syncs_in : List Task → ℕ
syncs_in tasks = sum_by (λ task. flushes task.line) tasks

-- How many calls were made for the lines and at their end: at least a flush for each line that
-- synced, and at most a write for each commit, a flush for each line `sync`, and one at the end. A
-- call that fails is one of these: a block whose write failed is written again by a later sync,
-- which ends where a call fails.
pub record AreCalls (before after : ℕ) (tasks : List Task) (history : List Entry)
    (outcomes : List LineEnd) : Type 0 where
  pub least : before + synced_in outcomes ≤ after
  pub most : after ≤ before + length history + syncs_in tasks + 1

-- A line that was full tells how many of the ring's blocks were live then: those of the image, and
-- at most one for each commit since. They left no place for one more.
pub record IsFullAt (ring live base at : ℕ) (full : Full) : Type 0 where
  pub counts : full ≡ record { live = full.live; promised = 0; want = 1 }
  pub least : live ≤ full.live
  pub most : full.live + base ≤ live + at
  pub no_place : ring < full.live + 2

-- Each line that was full was so, and no later one commits. The image has so many live blocks:
-- those of its stream, and the next.
pub record AreFull (ring live base : ℕ) (outcomes : List LineEnd) : Type 0 where
  pub each : (i : ℕ) (end : LineEnd) (full : Full) → slice_get outcomes i ≡ Some end
      → end.kind ≡ ends.Full full → IsFullAt ring live base end.at full
  pub last : (i j : ℕ) (former latter : LineEnd) → i < j → slice_get outcomes i ≡ Some former
      → slice_get outcomes j ≡ Some latter
      → (full : Full) → former.kind ≡ ends.Full full → latter.kind ≢ ends.Committed

-- What the lines tell of the disk is so: its faults and its syncs. Where none tells a fault there
-- was none, and each line that synced made a call at least.
pub record AreTold (before after : DiskSeen) (outcomes : List LineEnd) : Type 0 where
  pub faults : AreFaults before.faults after.faults outcomes
  pub unfailed : faults_in outcomes ≡ 0 → after.faults ≡ before.faults
  pub syncs : AreSyncs before.calls after.calls after.told outcomes
  pub least : before.calls + synced_in outcomes ≤ after.calls

-- The lines were run, one after another, from this tree on, and the disk was flushed or failed
-- then. What they tell of the disk and of its ring is so.
pub record AreRun (ring live : ℕ) (opening : Tree) (before after : DiskSeen) (tasks : List Task)
    (end : End) : Type 0 where
  pub session : Session opening end.base end.history tasks end.outcomes
  pub faults : AreFaults before.faults after.faults end.outcomes
  pub syncs : AreSyncs before.calls after.calls after.told end.outcomes
  pub calls : AreCalls before.calls after.calls tasks end.history end.outcomes
  pub full : AreFull ring live end.base end.outcomes

-- The lines were run on a mounted disk that had these transactions and this state before them, and
-- has that one after them.
pub record AreLines {Device : Type 0} (opening : Tree) (before after : DiskSeen)
    (old new : State Device) (tasks : List Task) (outcomes : List LineEnd) : Type 0 where
  pub session : Session opening old.base new.history tasks outcomes
  pub full : AreFull old.ring old.live old.base outcomes
  pub told : AreTold before after outcomes

-- They were run, the disk was flushed or failed then, and what was printed tells it.
pub record AreRunTo {Device : Type 0} (store : State Device) (opening : Tree)
    (before after : DiskSeen) (sink_before sink_after : SinkSeen) (tasks : List Task) (end : End)
    : Type 0 where
  pub ran : AreRun store.ring store.live opening before after tasks end
  pub finishes : Finishes before.calls before.faults store.from opening after
      sink_before sink_after tasks end end.stop

-- The lines that the source spells were run, one after another, on a disk that was mounted with
-- these transactions, the last of which has the number `base`, from the tree on that they make.
-- Every image left at every moment stands for the tree after a prefix of the history that has what
-- was settled, and since the mount, which makes two calls, each has the superblock of the next
-- generation.
pub record HasRunLines (before after : Outside) (end : End) (tasks : List Task) : Type 0 where
  pub spelled : Spells before.source after.source tasks
  pub txns : Transactions
  pub opening : Tree
  pub opens : Opens txns opening
  pub mounted : IfSome before.disk.told (IsMountedAt before.disk.size end.base txns opening)
  pub session : Session opening end.base end.history tasks end.outcomes
  pub next : IfSome after.disk.told (ChoosesNext before.disk.calls)
  pub prefix : IfSome after.disk.told
      (KeepsPrefix after.disk.size before.disk.calls opening end.base end.history)
  pub faults : AreFaults before.disk.faults after.disk.faults end.outcomes
  pub syncs : AreSyncs (before.disk.calls + 2) after.disk.calls after.disk.told end.outcomes
  pub calls : AreCalls (before.disk.calls + 2) after.disk.calls tasks end.history end.outcomes
  pub full : IfSome before.disk.told (λ r. (ring live : ℕ) → HasRing r.contents ring live
      → AreFull ring live end.base end.outcomes)

-- They were run, and what was made is durable, by a flush after the two calls of the mount; and
-- what was printed tells it.
pub record HasSynced (before after : Outside) (end : End) : Type 0 where
  pub tasks : List Task
  pub ran : HasRunLines before after end tasks
  pub durable : IsDurable (before.disk.calls + 2) before.disk.faults before.disk.calls ran.opening
      end.base end.history end.outcomes after.disk
  pub tells : Tells before.sink after.sink tasks end.outcomes end.stop

-- They were run, and the writes or the flush after them failed.
pub record HasNotSynced (before after : Outside) (end : End) : Type 0 where
  pub tasks : List Task
  pub ran : HasRunLines before after end tasks
  pub failed : IsNotDurable before.disk.faults end.outcomes after.disk
  pub tells : TellsUnsynced before.sink after.sink tasks end.outcomes

-- The first fault that the image has. A disk that failed, and want of memory, are told as causes of
-- their own.
abbrev pub IsNoImage : DiskSeen → MountFault → Type 0
IsNoImage disk mounts.Device = ⊥
IsNoImage disk mounts.OutOfMemory = ⊥
IsNoImage disk fault = IsTold disk fault

-- What was done, by why the command stopped. Where the source gave no script the disk was not
-- touched.
abbrev pub ShellDid : Outside → Outside → End → Stop → Type 0
ShellDid before after end stops.Done = HasSynced before after end
ShellDid before after end stops.Write = HasSynced before after end
ShellDid before after end stops.OutOfMemory =
    HasNotRun before after end ⊎ HasSynced before after end
ShellDid before after end stops.Device =
    Rose before.disk.faults after.disk.faults
    × (HasNotMounted before after end ⊎ HasNotSynced before after end)
ShellDid before after end (stops.NotMounted fault) =
    HasNotRun before after end × IsScript before.source after.source × IsNoImage before.disk fault
ShellDid before after end stop =
    (after.disk ≡ before.disk) × HasNotRun before after end
    × IsNoScript before.source after.source stop

-- What `shell` does, and what holds however it stopped. `images`: if nothing of the disk was loose
-- at entry and a superblock was chosen, then every image left at every moment since that is not
-- there by chance has that superblock chosen, or that of the next generation. No entry is settled
-- by a later call than were made, and of the source at most one byte more is taken than a script
-- has.
pub record ShellEnds (before after : Outside) (end : End) : Type 0 where
  pub did : ShellDid before after end end.stop
  pub images : IfSome after.disk.told (ChoosesSince before.disk.calls)
  pub settled : All (λ entry. entry.settled ≤ after.disk.calls) end.history
  pub most : GivesAtMost before.source.left after.source.left (MAX_INPUT + 1)
  pub disk : GoesOn before.disk after.disk
  pub source : SourceGoesOn before.source after.source
  pub sink : SinkGoesOn before.sink after.sink
