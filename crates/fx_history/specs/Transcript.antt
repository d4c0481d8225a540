-- What outcomes say of a history.
use Rattle.std.specs.Prelude.{◌≡◌, ◌≢◌, ℕ, ◌+◌, ◌<◌, ◌≤◌, Bool, true, false, List, [], ◌∷◌, ◌++◌, Some, Ok, Err, IsOk, All, length, take, count_by, slice_get}
use Rattle.std.specs.List.{list_any}
use Rattle.fx_plain.specs.Tree.{Tree}
use Rattle.fx_plain.specs.Table.{do_step, do_all, is_reading}
use Rattle.fx_plain.specs.declared.step.Step.{Step}
use Rattle.fx_plain.specs.declared.step.Answer.{Answer}
use Rattle.fx_script.specs.declared.line.Line.{Line}
use Rattle.fx_script.specs.declared.line.Line.TheVariants.{Single, Sync}
use Rattle.fx_script.specs.declared.script.Task.{Task}
use Rattle.fx_history.specs.declared.entry.Entry.{Entry}
use Rattle.fx_history.specs.declared.outcome.EndKind.{EndKind}
use Rattle.fx_history.specs.declared.outcome.EndKind.TheVariants.{Committed, Seen, Refused, Full, Synced, DeviceFault, OutOfMemory}
use Rattle.fx_history.specs.Outcome.{LineEnd}
use Rattle.fx_history.specs.History.{Legal, tree_at, settle}

abbrev pub steps_of : Line → List Step
steps_of (Single step) = step ∷ []
steps_of Sync = []

-- ---- what the kinds of end say: `IsAnswered` says for each of them what it means for the history
-- and for the tree at its point, and the definitions that pick some kinds out name these alone

-- the line is a commit of the history
abbrev pub is_committed : EndKind → Bool
is_committed Committed = true
is_committed other = false

-- the line tells that a sync was done
abbrev pub is_synced : EndKind → Bool
is_synced (Synced calls) = true
is_synced other = false

-- the line tells a fault of the disk
abbrev pub is_fault : EndKind → Bool
is_fault (DeviceFault count) = true
is_fault other = false

-- the entry is the commit of the line, whose steps all change the tree
pub record IsCommitOf (task : Task) (at : ℕ) (entry : Entry) : Type 0 where
  pub number : entry.number ≡ at
  pub who : entry.who ≡ task.client
  pub line : entry.line ≡ task.number
  pub no_sync : task.line ≢ Sync
  pub steps : entry.steps ≡ steps_of task.line
  pub changing : list_any is_reading (steps_of task.line) ≡ false

-- the line is one step that looks at the tree, and this is its answer there
pub record IsSeenBy (tree : Tree) (line : Line) (answer : Answer) (step : Step) : Type 0 where
  pub alone : line ≡ Single step
  pub reading : is_reading step ≡ true
  pub answers : (do_step tree step).0 ≡ Ok answer

-- the line's steps all change the tree, and would all be done there
pub record WouldCommit (tree : Tree) (line : Line) : Type 0 where
  pub no_sync : line ≢ Sync
  pub changing : list_any is_reading (steps_of line) ≡ false
  pub done : IsOk (do_all tree (steps_of line))

-- the line is a sync, and the commits up to its point are settled after at most so many device
-- calls
pub record IsSynced (history : List Entry) (line : Line) (at calls : ℕ) : Type 0 where
  pub sync : line ≡ Sync
  pub settled : (i : ℕ) (entry : Entry) → slice_get history i ≡ Some entry → entry.number ≤ at
      → (0 < entry.settled) × (entry.settled ≤ calls)

-- What each kind of end says of its line, at its point. A commit is in the history, an answer or a
-- refusal is the one of the tree there, and a line that was full would be done on it. Of a disk
-- that failed and of want of memory nothing more is said, but that a sync alone uses the disk, and takes
-- no memory.
abbrev pub IsAnswered : Tree → List Entry → Task → ℕ → EndKind → Type 0
IsAnswered tree history task at Committed =
    (i : ℕ) × (entry : Entry) × (slice_get history i ≡ Some entry) × IsCommitOf task at entry
IsAnswered tree history task at (Seen answer) =
    (step : Step) × IsSeenBy (tree_at tree history at) task.line answer step
IsAnswered tree history task at (Refused index refusal) =
    do_all (tree_at tree history at) (steps_of task.line) ≡ Err (index, refusal)
IsAnswered tree history task at (Full full) = WouldCommit (tree_at tree history at) task.line
IsAnswered tree history task at (Synced calls) = IsSynced history task.line at calls
IsAnswered tree history task at (DeviceFault count) = task.line ≡ Sync
IsAnswered tree history task at OutOfMemory = task.line ≢ Sync

-- the line committed with this number
pub record CommitsAs (tasks : List Task) (outcomes : List LineEnd) (number line : ℕ) (i : ℕ)
    (task : Task) : Type 0 where
  pub asked : slice_get tasks i ≡ Some task
  pub ended : slice_get outcomes i ≡ Some (record { at = number; kind = Committed })
  pub numbered : task.number ≡ line

-- The outcomes are the ends of these lines over this history, made on this tree after `base`
-- commits.
pub record Transcript (tree : Tree) (base : ℕ) (history : List Entry) (tasks : List Task)
    (outcomes : List LineEnd) : Type 0 where
  pub legal : Legal tree base history
  -- one outcome for each line
  pub one_each : length outcomes ≡ length tasks
  pub answered : (i : ℕ) (task : Task) (end : LineEnd) → slice_get tasks i ≡ Some task
      → slice_get outcomes i ≡ Some end → IsAnswered tree history task end.at end.kind
  -- each entry of a client is a line that committed
  pub asked : (k : ℕ) (entry : Entry) → slice_get history k ≡ Some entry → 0 < entry.who
      → (i : ℕ) × (task : Task) × CommitsAs tasks outcomes entry.number entry.line i task
  -- every point is one of the history
  pub within : (i : ℕ) (end : LineEnd) → slice_get outcomes i ≡ Some end
      → (base ≤ end.at) × (end.at ≤ base + length history)
  -- a client's points never fall, and a commit is above all of its earlier points
  pub in_order : (i j : ℕ) (former latter : Task) (before after : LineEnd) → i < j
      → slice_get tasks i ≡ Some former → slice_get tasks j ≡ Some latter
      → former.client ≡ latter.client → slice_get outcomes i ≡ Some before
      → slice_get outcomes j ≡ Some after
      → (before.at ≤ after.at) × (is_committed after.kind ≡ true → before.at < after.at)

-- A session of one client alone: each line is answered after all commits of the lines before it,
-- and prints their number, its own commit counted.
pub record Session (tree : Tree) (base : ℕ) (history : List Entry) (tasks : List Task)
    (outcomes : List LineEnd) : Type 0 where
  pub transcript : Transcript tree base history tasks outcomes
  pub points : (i : ℕ) (end : LineEnd) → slice_get outcomes i ≡ Some end
      → end.at ≡ base + count_by (λ o. is_committed o.kind) (take (i + 1) outcomes)
  pub count : length history ≡ count_by (λ o. is_committed o.kind) outcomes

-- The line ends next after the old history, and leaves the new one: a commit adds its entry, a sync
-- settles what is there, and every other end leaves the history and is right at its last number.
abbrev pub EndsNext : Tree → ℕ → List Entry → List Entry → Task → ℕ → EndKind → Type 0
EndsNext tree base old new task at Committed =
    (entry : Entry) × (new ≡ old ++ entry ∷ []) × IsCommitOf task at entry × (entry.settled ≡ 0)
    × (at ≡ base + length old + 1)
    × IsOk (do_all (tree_at tree old (base + length old)) entry.steps)
EndsNext tree base old new task at (Synced calls) =
    (new ≡ settle calls old) × (at ≡ base + length old) × (task.line ≡ Sync) × (0 < calls)
    × All (λ entry. entry.settled ≤ calls) old
EndsNext tree base old new task at other =
    (new ≡ old) × (at ≡ base + length old) × IsAnswered tree old task at other
