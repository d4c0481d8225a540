-- What a result line tells of an end, and what it leaves out.
use Rattle.std.specs.Prelude.{◌≡◌, ℕ, ◌<◌, ◌^◌, List}
use Rattle.std.specs.List.{AllByRecursion}
use Rattle.fx_plain.specs.declared.kind.Kind.TheVariants as kinds
use Rattle.fx_plain.specs.declared.step.Answer.{Answer}
use Rattle.fx_plain.specs.declared.step.Answer.TheVariants as answers
use Rattle.fx_script.specs.declared.script.Task.{Task}
use Rattle.fx_history.specs.declared.outcome.EndKind.{EndKind}
use Rattle.fx_history.specs.declared.outcome.EndKind.TheVariants as ends
use Rattle.fx_history.specs.Outcome.{LineEnd}

-- the end as its line tells it. Left out are the count of a disk's faults, the blocks of a full
-- journal, and the blocks of a directory; a step that answers nothing and a commit are told alike.
-- No answer that is right has one of the last two.
abbrev pub told : EndKind → EndKind
told (ends.Seen answers.Done) = ends.Committed
told (ends.Seen (answers.Stat kinds.Dir size blocks)) = ends.Seen (answers.Stat kinds.Dir size 0)
told (ends.Full full) = ends.Full (record { live = 0; promised = 0; want = 0 })
told (ends.DeviceFault count) = ends.DeviceFault 0
told other = other

-- a number of at most 64 digits is printed with all of them
abbrev pub IsPrintedWhole : ℕ → Type 0
IsPrintedWhole number = number < 10 ^ 64

-- each byte is below 256, as an escape tells it
abbrev pub HasEscapes : List ℕ → Type 0
HasEscapes bytes = AllByRecursion (λ b. b < 256) bytes

-- each number and each byte of the answer that is printed is printed whole
abbrev pub AnswerIsWhole : Answer → Type 0
AnswerIsWhole answers.Done = Unit {0}
AnswerIsWhole (answers.Text bytes) = HasEscapes bytes
AnswerIsWhole (answers.Names names) = AllByRecursion HasEscapes names
AnswerIsWhole (answers.Stat kinds.Dir size blocks) = IsPrintedWhole size
AnswerIsWhole (answers.Stat kinds.File size blocks) = IsPrintedWhole size × IsPrintedWhole blocks

-- so is that of the end
abbrev pub EndIsWhole : EndKind → Type 0
EndIsWhole (ends.Seen answer) = AnswerIsWhole answer
EndIsWhole (ends.Refused index refusal) = IsPrintedWhole index
EndIsWhole (ends.Synced calls) = IsPrintedWhole calls
EndIsWhole other = Unit {0}

-- Each number that is printed for the line has at most 64 digits, and each byte is below 256, as
-- all that is in memory is.
pub record LineIsWhole (task : Task) (end : LineEnd) : Type 0 where
  pub client : IsPrintedWhole task.client
  pub number : IsPrintedWhole task.number
  pub at : IsPrintedWhole end.at
  pub kind : EndIsWhole end.kind

-- two lines tell the same: one client, one number of the line, one commit, and one end as told
pub record TellSame (task other : Task) (first second : LineEnd) : Type 0 where
  pub client : task.client ≡ other.client
  pub number : task.number ≡ other.number
  pub at : first.at ≡ second.at
  pub kind : told first.kind ≡ told second.kind
