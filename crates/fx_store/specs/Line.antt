-- What a line puts into the history, how one that looks at the tree ends, and how often a line
-- flushes.
use Rattle.std.specs.Prelude.{◌≡◌, ℕ, [], ◌∷◌, Result, Ok, Err}
use Rattle.fx_plain.specs.declared.step.Answer.{Answer}
use Rattle.fx_plain.specs.declared.step.Refusal.{Refusal}
use Rattle.fx_script.specs.declared.line.Line.{Line}
use Rattle.fx_script.specs.declared.line.Line.TheVariants.{Single, Sync}
use Rattle.fx_script.specs.declared.script.Task.{Task}
use Rattle.fx_history.specs.declared.entry.Entry.{Entry}
use Rattle.fx_store.specs.declared.commit.Change.{Change}
use Rattle.fx_history.specs.declared.outcome.EndKind.{EndKind}
use Rattle.fx_history.specs.declared.outcome.EndKind.TheVariants.{Committed, Seen, Refused, Full, Synced, DeviceFault, OutOfMemory}

-- the entry of the history for a line that changes the tree, under this number
abbrev pub change_entry : ℕ → Change → Entry
change_entry number change = record {
  number = number;
  who = change.client;
  line = change.line;
  steps = change.step ∷ [];
  settled = 0;
}

-- the line itself
abbrev pub change_task : Change → Task
change_task change =
    record { client = change.client; number = change.line; line = Single change.step }

-- A line whose one step has this outcome on the tree ends so, unless memory runs out.
abbrev pub EndsAs : Result Answer Refusal → EndKind → Type 0
EndsAs outcome (Seen answer) = outcome ≡ Ok answer
EndsAs outcome (Refused index refusal) = (index ≡ 1) × (outcome ≡ Err refusal)
EndsAs outcome OutOfMemory = Unit {0}
EndsAs outcome other = ⊥

-- the entry, settled after so many calls of the disk
abbrev pub settled_entry : ℕ → Entry → Entry
settled_entry calls entry = record entry { settled = calls }

-- how a line ends whose step looks at the tree, one whose step changes it, and a sync
abbrev pub Looks : EndKind → Type 0
Looks (Seen answer) = Unit {0}
Looks (Refused index refusal) = Unit {0}
Looks OutOfMemory = Unit {0}
Looks other = ⊥

abbrev pub Changes : EndKind → Type 0
Changes Committed = Unit {0}
Changes (Refused index refusal) = Unit {0}
Changes (Full full) = Unit {0}
Changes OutOfMemory = Unit {0}
Changes other = ⊥

abbrev pub Syncs : EndKind → Type 0
Syncs (Synced calls) = Unit {0}
Syncs (DeviceFault count) = Unit {0}
Syncs other = ⊥

-- how many flushes a line makes at most
abbrev pub flushes : Line → ℕ
flushes (Single step) = 0
flushes Sync = 1
