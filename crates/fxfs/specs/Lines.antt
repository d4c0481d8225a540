-- The lines of a source, and what is done with them.
use Rattle.std.specs.Prelude.{◌≡◌, ◌⊎◌, ℕ, ◌<◌, ◌+◌, ◌++◌, Bool, true, false, All, List, Some, Ok, Err, length, count_by, slice_get}
use Rattle.std.specs.Option.{IfSome}
use Rattle.fx_base.specs.Causes.{Rose}
use Rattle.fx_disk.specs.Seen.{DiskSeen, IsFlushedBy, HasFailedLast}
use Rattle.fx_image.specs.Prefix.{KeepsAll}
use Rattle.fx_io.specs.Told.{GivesCount, GivesAtMost}
use Rattle.fx_io.specs.Seen.{SourceSeen, SinkSeen, GivesWhole}
use Rattle.fx_plain.specs.Tree.{Tree}
use Rattle.fx_script.specs.declared.script.Task.{Task}
use Rattle.fx_script.specs.declared.fault.LineFault.{LineFault}
use Rattle.fx_script.specs.declared.fault.ScriptFault.TheVariants as scripts
use Rattle.fx_script.specs.Script.{script_of}
use Rattle.fx_history.specs.declared.entry.Entry.{Entry}
use Rattle.fx_history.specs.declared.outcome.EndKind.TheVariants as ends
use Rattle.fx_history.specs.Outcome.{LineEnd}
use Rattle.fx_history.specs.History.{settle}
use Rattle.fx_history.specs.Transcript.{Session, is_fault, is_synced}
use Rattle.fx_history.specs.Text.{result_text}
use Rattle.fxfs.specs.declared.ended.Stop.{Stop}
use Rattle.fxfs.specs.declared.ended.Stop.TheVariants as stops
use Rattle.fxfs.specs.declared.shell.TheConstants.{MAX_INPUT}
use Rattle.fxfs.specs.Stop.{stop_line}
use Rattle.fxfs.specs.Outside.{End, Prints, FailsIn, PrintsOrFails}

-- ---- the lines that a source gives

-- All bytes of the source were read, not too many, and they are a script of these lines.
abbrev pub Spells : SourceSeen → SourceSeen → List Task → Type 0
Spells before after tasks =
    (bytes : List ℕ) × GivesWhole before after MAX_INPUT bytes × (script_of false bytes ≡ Ok tasks)

-- The bytes of the source are a script.
abbrev pub IsScript : SourceSeen → SourceSeen → Type 0
IsScript before after = (tasks : List Task) × Spells before after tasks

-- The first wrong line of the source's bytes has this number and this fault.
abbrev pub IsBadInput : SourceSeen → SourceSeen → ℕ → LineFault → Type 0
IsBadInput before after number fault =
    (bytes : List ℕ) × GivesWhole before after MAX_INPUT bytes
    × (script_of false bytes ≡ Err (scripts.BadLine number fault))

-- The source failed, within the bytes of a script.
pub record IsUnread (before after : SourceSeen) : Type 0 where
  pub rose : Rose before.faults after.faults
  pub within : GivesAtMost before.left after.left MAX_INPUT

-- Why the source's bytes were not read as a script.
abbrev pub IsNoScript : SourceSeen → SourceSeen → Stop → Type 0
IsNoScript before after stops.Read = IsUnread before after
IsNoScript before after stops.OutOfMemory = Unit {0}
IsNoScript before after (stops.BadLine number fault) = IsBadInput before after number fault
IsNoScript before after stops.TooMuchInput = GivesCount before.left after.left (MAX_INPUT + 1)
IsNoScript before after stop = ⊥

-- ---- what is printed

-- What is printed once the lines were run and the disk was flushed, by why the command stopped.
abbrev pub Tells : SinkSeen → SinkSeen → List Task → List LineEnd → Stop → Type 0
Tells before after tasks outcomes stops.Done = Prints before after (result_text tasks outcomes)
Tells before after tasks outcomes stops.Write = FailsIn before after (result_text tasks outcomes)
Tells before after tasks outcomes stops.OutOfMemory =
    PrintsOrFails before after (stop_line stops.OutOfMemory)
Tells before after tasks outcomes stop = ⊥

-- What is printed once the lines were run and the disk could not be flushed: the result lines and
-- the stop line, or, where memory was refused for the former, the stop line.
abbrev pub TellsUnsynced : SinkSeen → SinkSeen → List Task → List LineEnd → Type 0
TellsUnsynced before after tasks outcomes =
    PrintsOrFails before after (result_text tasks outcomes ++ stop_line stops.Device)
    ⊎ PrintsOrFails before after (stop_line stops.Device)

-- What is printed once the lines were run, by whether the disk was flushed, and why the command
-- stopped.
abbrev pub TellsEnd : Bool → SinkSeen → SinkSeen → List Task → List LineEnd → Stop → Type 0
TellsEnd true before after tasks outcomes stop = Tells before after tasks outcomes stop
TellsEnd false before after tasks outcomes stop =
    (stop ≡ stops.Device) × TellsUnsynced before after tasks outcomes

-- ---- the flush at the end

-- how many of the lines synced
abbrev pub synced_in : List LineEnd → ℕ
synced_in outcomes = count_by (λ line. is_synced line.kind) outcomes

-- how many of the lines ended at a fault of the disk
abbrev pub faults_in : List LineEnd → ℕ
faults_in outcomes = count_by (λ line. is_fault line.kind) outcomes

-- What was made is durable: the last call is a flush that was good, every entry is settled, and
-- every image left now stands for the tree after the whole history. That call comes after the first
-- calls and those that the lines tell: each line that synced made one at least, and it is one more.
-- Where no line tells a fault of the disk there was none.
pub record IsDurable (calls faults from : ℕ) (opening : Tree) (base : ℕ) (history : List Entry)
    (outcomes : List LineEnd) (disk : DiskSeen) : Type 0 where
  pub flushed : IsFlushedBy disk.calls disk
  pub more : calls + synced_in outcomes < disk.calls
  pub below : (i : ℕ) (line : LineEnd) (told : ℕ) → slice_get outcomes i ≡ Some line
      → line.kind ≡ ends.Synced told → told < disk.calls
  pub unfailed : faults_in outcomes ≡ 0 → disk.faults ≡ faults
  pub settled : All (λ entry. 0 < entry.settled) history
  pub whole : IfSome disk.told (KeepsAll disk.size from opening base history)

-- The disk failed once more after all faults that lines tell, in the writes or the flush at the
-- end: the call that was last asked for was not made, or is the last one and failed.
pub record IsNotDurable (faults : ℕ) (outcomes : List LineEnd) (disk : DiskSeen) : Type 0 where
  pub rose : Rose faults disk.faults
  pub failed : HasFailedLast disk
  pub above : (i : ℕ) (line : LineEnd) (told : ℕ) → slice_get outcomes i ≡ Some line
      → line.kind ≡ ends.DeviceFault told → Rose told disk.faults

-- The one or the other.
abbrev pub Lasts : Bool → (calls faults from : ℕ) → Tree → (base : ℕ) → List Entry → List LineEnd
    → DiskSeen → Type 0
Lasts true calls faults from opening base history outcomes disk =
    IsDurable calls faults from opening base history outcomes disk
Lasts false calls faults from opening base history outcomes disk =
    IsNotDurable faults outcomes disk

-- What a flush leaves of the history: it is settled after so many calls, or as it was.
abbrev pub SettlesIf : Bool → ℕ → List Entry → List Entry → Type 0
SettlesIf true calls old new = (0 < calls) × (new ≡ settle calls old)
SettlesIf false calls old new = new ≡ old

-- A session stays one with this history in place of that one, which has as many entries.
pub record KeepsSession (base : ℕ) (old new : List Entry) : Type 0 where
  pub as_many : length new ≡ length old
  pub session : (opening : Tree) (tasks : List Task) (outcomes : List LineEnd)
      → Session opening base old tasks outcomes → Session opening base new tasks outcomes

-- The flush came, and this was printed, by why the command stopped.
abbrev pub Finishes : (calls faults from : ℕ) → Tree → DiskSeen → SinkSeen → SinkSeen → List Task
    → End → Stop → Type 0
Finishes calls faults from opening disk before after tasks end stops.Device =
    IsNotDurable faults end.outcomes disk × TellsUnsynced before after tasks end.outcomes
Finishes calls faults from opening disk before after tasks end stop =
    IsDurable calls faults from opening end.base end.history end.outcomes disk
    × Tells before after tasks end.outcomes stop
