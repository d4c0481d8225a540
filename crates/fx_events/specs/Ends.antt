-- What a line of a client asks, and what its end says of the notes.
use Rattle.std.specs.Prelude.{◌≡◌, ℕ, ◌<◌, ◌≤◌, true, false, List, [], ◌∷◌, Some, Ok, Err, IsOk, slice_get, sum_by}
use Rattle.std.specs.List.{list_any}
use Rattle.fx_item.specs.declared.space.Need.{Need}
use Rattle.fx_item.specs.declared.space.Beyond.{Beyond}
use Rattle.fx_item.specs.SpaceRule.{HasRoom}
use Rattle.fx_plain.specs.Tree.{Tree, sizes_of}
use Rattle.fx_plain.specs.Table.{do_step, do_all, is_reading}
use Rattle.fx_plain.specs.Growth.{new_blocks, new_nodes}
use Rattle.fx_plain.specs.declared.step.Step.{Step}
use Rattle.fx_plain.specs.declared.step.Answer.{Answer}
use Rattle.fx_plain.specs.declared.step.Refusal.{Refusal}
use Rattle.fx_history.specs.declared.entry.Entry.{Entry}
use Rattle.fx_history.specs.History.{tree_at}
use Rattle.fx_events.specs.Notes.{Mounted, Note, base_number, entries_in, history_in}

-- steps that are done together or not at all; a sync; a compaction
pub data LineRequest : Type 0 where
  Steps : (steps : List Step) → LineRequest
  SyncAll : LineRequest
  Compact : LineRequest

-- a line, the client that sends it, and its number
pub record SentRequest : Type 0 where
  pub client : ℕ
  pub line : ℕ
  pub request : LineRequest

-- how a line ended: its steps are a commit; a step saw this; the step with this index was refused;
-- the steps write too much for one commit; there is no room for them, with what was held beyond the
-- tree; the journal's ring was full; a sync was done by so many device calls; a compaction was done;
-- the disk failed, with its count of faults; a block has another sum than the one kept for it; no
-- memory was to be had
pub data Ending : Type 0 where
  Committed : Ending
  Seen : (answer : Answer) → Ending
  Refused : (index : ℕ) (refusal : Refusal) → Ending
  TooBig : Ending
  NoSpace : (beyond : Beyond) → Ending
  RingFull : Ending
  Synced : (calls : ℕ) → Ending
  Compacted : Ending
  DeviceFailed : (count : ℕ) → Ending
  Damaged : (block kept found : ℕ) → Ending
  NoMemory : Ending

-- how a line ended, and at which commit
pub record EndedAt : Type 0 where
  pub at : ℕ
  pub ending : Ending

-- the most data blocks that one commit writes
abbrev pub max_written : ℕ
max_written = 256

-- what the steps add at most: a block for each that holds a byte of a text that is written
abbrev pub need_of : List Step → Need
need_of steps = record {
  nodes = sum_by new_nodes steps;
  attributes = 0;
  blocks = sum_by new_blocks steps;
}

-- the entry is the commit of the line, whose steps all change the tree
pub record IsEntryOf (sent : SentRequest) (at : ℕ) (entry : Entry) : Type 0 where
  pub number : entry.number ≡ at
  pub who : entry.who ≡ sent.client
  pub line : entry.line ≡ sent.line
  pub steps : sent.request ≡ Steps entry.steps
  pub changing : list_any is_reading entry.steps ≡ false

-- the line is one step that looks at the tree, and this is its answer there
pub record IsLookedAt (tree : Tree) (request : LineRequest) (answer : Answer) (step : Step)
    : Type 0 where
  pub alone : request ≡ Steps (step ∷ [])
  pub reading : is_reading step ≡ true
  pub answers : (do_step tree step).0 ≡ Ok answer

-- the steps of the line, which all change the tree, and would all be done on it
pub record WouldAllBeDone (tree : Tree) (request : LineRequest) (steps : List Step) : Type 0 where
  pub asked : request ≡ Steps steps
  pub changing : list_any is_reading steps ≡ false
  pub done : IsOk (do_all tree steps)

-- the commits up to this number are settled, each after at most so many device calls
abbrev pub AreSettled : List Entry → ℕ → ℕ → Type 0
AreSettled history at calls =
    (i : ℕ) (entry : Entry) → slice_get history i ≡ Some entry → entry.number ≤ at
    → (0 < entry.settled) × (entry.settled ≤ calls)

-- What each kind of end says of its line at its point. A commit is among the notes; an answer, a
-- refusal and a want of room are those of the tree there; what a sync and a compaction tell was
-- done. Of a disk that failed, of damage and of want of memory nothing is said: with many clients a
-- line of any kind may meet them, since one that looks or commits may read the disk too, and a sync
-- or a compaction may take memory. They tell nothing of the tree, and `AreEnds` bounds their points.
abbrev pub IsEndOf : Mounted → List Note → SentRequest → ℕ → Ending → Type 0
IsEndOf mounted notes sent at Committed =
    (i : ℕ) × (entry : Entry) × (slice_get (entries_in notes) i ≡ Some entry)
    × IsEntryOf sent at entry
IsEndOf mounted notes sent at (Seen answer) =
    (step : Step)
    × IsLookedAt (tree_at mounted.tree (entries_in notes) at) sent.request answer step
IsEndOf mounted notes sent at (Refused index refusal) =
    (steps : List Step) × (sent.request ≡ Steps steps)
    × (do_all (tree_at mounted.tree (entries_in notes) at) steps ≡ Err (index, refusal))
IsEndOf mounted notes sent at TooBig =
    (steps : List Step)
    × WouldAllBeDone (tree_at mounted.tree (entries_in notes) at) sent.request steps
    × (max_written < (need_of steps).blocks)
IsEndOf mounted notes sent at (NoSpace beyond) =
    (steps : List Step)
    × WouldAllBeDone (tree_at mounted.tree (entries_in notes) at) sent.request steps
    × ((need_of steps).blocks ≤ max_written)
    × (HasRoom mounted.blocks mounted.ring
    (sizes_of (tree_at mounted.tree (entries_in notes) at)) (need_of steps) beyond → ⊥)
IsEndOf mounted notes sent at RingFull =
    (steps : List Step)
    × WouldAllBeDone (tree_at mounted.tree (entries_in notes) at) sent.request steps
IsEndOf mounted notes sent at (Synced calls) =
    (sent.request ≡ SyncAll) × AreSettled (history_in notes) at calls
IsEndOf mounted notes sent at Compacted =
    (sent.request ≡ Compact) × (at ≤ base_number mounted.base notes)
IsEndOf mounted notes sent at (DeviceFailed count) = Unit {0}
IsEndOf mounted notes sent at (Damaged block kept found) = Unit {0}
IsEndOf mounted notes sent at NoMemory = Unit {0}
