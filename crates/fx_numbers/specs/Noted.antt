-- Notes in memory.
use Rattle.std.specs.Prelude.{◌≡◌, ℕ, ◌≤◌, List, [], ◌∷◌, map, nat_le, if◌then◌else◌}
use Rattle.fx_history.specs.declared.entry.Entry.{Entry}
use Rattle.fx_events.specs.Notes.{Note, Commits, Settles, Raises, settled_at}
use Rattle.fx_numbers.specs.declared.flush.Flush.{Flush}
use Rattle.fx_numbers.specs.declared.log.Happened.{Happened}
use Rattle.fx_numbers.specs.declared.log.Happened.TheVariants as happened

-- the notes, and for how many there is memory
pub record NoteList : Type 0 where
  pub notes : List Note
  pub room : ℕ

abbrev pub note_of : Happened → Note
note_of (happened.Commits entry) = Commits entry
note_of (happened.Settles number calls) = Settles number calls
note_of (happened.Raises base) = Raises base

-- ---- the history

-- the flushes, in their order
abbrev pub flushes_in : List Note → List Flush
flushes_in [] = []
flushes_in (Commits entry ∷ notes) = flushes_in notes
flushes_in (Settles number calls ∷ notes) =
    record { number = number; calls = calls } ∷ flushes_in notes
flushes_in (Raises base ∷ notes) = flushes_in notes

-- the calls of the first flush that reaches the number; 0 where none does
abbrev pub calls_by : List Flush → ℕ → ℕ
calls_by [] number = 0
calls_by (f ∷ fs) number = if nat_le number f.number then f.calls else calls_by fs number

-- those of the first flush
abbrev pub first_calls : List Flush → ℕ
first_calls [] = 0
first_calls (f ∷ fs) = f.calls

-- from the number on the same flushes are the first to reach one
abbrev pub ReachAlike : ℕ → List Flush → List Flush → Type 0
ReachAlike least fs gs = (m : ℕ) → least ≤ m → calls_by fs m ≡ calls_by gs m

-- each entry with the calls of the first of these flushes that reaches it
abbrev pub settled_with : List Flush → List Entry → List Entry
settled_with fs entries = map (λ entry. settled_at (calls_by fs entry.number) entry) entries
