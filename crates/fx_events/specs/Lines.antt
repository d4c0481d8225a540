-- What the ends of the lines of any clients say of the notes, and those of one client alone.
use Rattle.std.specs.Prelude.{◌≡◌, ℕ, ◌+◌, ◌<◌, ◌≤◌, ◌&&◌, Bool, true, false, List, [], ◌∷◌, Some, length, take, nat_le, nat_lt, count_by, slice_get}
use Rattle.fx_script.specs.declared.line.Line.{Line}
use Rattle.fx_script.specs.declared.line.Line.TheVariants as lines
use Rattle.fx_script.specs.declared.script.Task.{Task}
use Rattle.fx_history.specs.declared.entry.Entry.{Entry}
use Rattle.fx_history.specs.declared.outcome.EndKind.{EndKind}
use Rattle.fx_history.specs.declared.outcome.EndKind.TheVariants as kinds
use Rattle.fx_history.specs.Outcome.{LineEnd}
use Rattle.fx_events.specs.Notes.{AreNotes, Mounted, Note, entries_in, last_commit}
use Rattle.fx_events.specs.Ends.{EndedAt, Ending, Committed, Seen, Refused, RingFull, Synced, DeviceFailed, NoMemory, IsEndOf, LineRequest, SentRequest, Steps, SyncAll}

-- the line is a commit
abbrev pub ends_in_commit : Ending → Bool
ends_in_commit Committed = true
ends_in_commit other = false

-- the line committed with this number
pub record IsLineOf (sents : List SentRequest) (ends : List EndedAt) (entry : Entry) (i : ℕ)
    (sent : SentRequest) : Type 0 where
  pub asked : slice_get sents i ≡ Some sent
  pub ended : slice_get ends i ≡ Some (record { at = entry.number; ending = Committed })
  pub client : sent.client ≡ entry.who
  pub line : sent.line ≡ entry.line

-- The ends are those of these lines, in the order in which each client sent its own.
pub record AreEnds (mounted : Mounted) (notes : List Note) (sents : List SentRequest)
    (ends : List EndedAt) : Type 0 where
  pub happened : AreNotes mounted notes
  -- one end for each line
  pub one_each : length ends ≡ length sents
  pub right : (i : ℕ) (sent : SentRequest) (end : EndedAt) → slice_get sents i ≡ Some sent
      → slice_get ends i ≡ Some end → IsEndOf mounted notes sent end.at end.ending
  -- each entry of a client is a line of that client that committed
  pub asked : (k : ℕ) (entry : Entry) → slice_get (entries_in notes) k ≡ Some entry
      → 0 < entry.who → (i : ℕ) × (sent : SentRequest) × IsLineOf sents ends entry i sent
  -- every point is that of the mount or of a commit since
  pub within : (i : ℕ) (end : EndedAt) → slice_get ends i ≡ Some end
      → (mounted.kept ≤ end.at) × (end.at ≤ last_commit mounted.kept notes)
  -- a client's points never fall, and a commit is above all of its earlier points
  pub in_order : (i j : ℕ) (former latter : SentRequest) (before after : EndedAt) → i < j
      → slice_get sents i ≡ Some former → slice_get sents j ≡ Some latter
      → former.client ≡ latter.client → slice_get ends i ≡ Some before
      → slice_get ends j ≡ Some after
      → (before.at ≤ after.at) × (ends_in_commit after.ending ≡ true → before.at < after.at)

-- the entry is a client's, with a number up to this one
abbrev pub is_asked_upto : ℕ → Entry → Bool
is_asked_upto number entry = nat_lt 0 entry.who && nat_le entry.number number

-- One client is alone: up to the point of each line it has the commits of the lines up to this one,
-- and no others; upkeep may lie between them.
abbrev pub AreEndsOfOne : List Note → List EndedAt → Type 0
AreEndsOfOne notes ends =
    (i : ℕ) (end : EndedAt) → slice_get ends i ≡ Some end
    → count_by (is_asked_upto end.at) (entries_in notes)
    ≡ count_by (λ o. ends_in_commit o.ending) (take (i + 1) ends)

-- ---- lines and ends as they are in memory

abbrev pub line_request : Line → LineRequest
line_request (lines.Single step) = Steps (step ∷ [])
line_request lines.Sync = SyncAll

abbrev pub sent_of : Task → SentRequest
sent_of task = record {
  client = task.client;
  line = task.number;
  request = line_request task.line;
}

abbrev pub ending_of : EndKind → Ending
ending_of kinds.Committed = Committed
ending_of (kinds.Seen answer) = Seen answer
ending_of (kinds.Refused index refusal) = Refused index refusal
ending_of (kinds.Full full) = RingFull
ending_of (kinds.Synced calls) = Synced calls
ending_of (kinds.DeviceFault count) = DeviceFailed count
ending_of kinds.OutOfMemory = NoMemory

abbrev pub ended_of : LineEnd → EndedAt
ended_of end = record { at = end.at; ending = ending_of end.kind }
