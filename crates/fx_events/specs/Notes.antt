-- What happened since a mount: notes in the order in which it happened, and what is read off them.
use Rattle.std.specs.Prelude.{◌≡◌, ℕ, ◌+◌, ◌<◌, ◌≤◌, ◌⊎◌, List, [], ◌∷◌, ◌++◌, Some, IsOk, if◌then◌else◌, length, map, nat_le, slice_get}
use Rattle.fx_plain.specs.Tree.{Tree}
use Rattle.fx_plain.specs.Table.{do_all}
use Rattle.fx_history.specs.declared.entry.Entry.{Entry}
use Rattle.fx_history.specs.History.{tree_at}

-- What the mount found: the tree after the last commit that the image keeps, the number of that
-- commit, the base count, and the blocks of the disk and of its ring.
pub record Mounted : Type 0 where
  pub tree : Tree
  pub kept : ℕ
  pub base : ℕ
  pub blocks : ℕ
  pub ring : ℕ

-- a commit; a flush that settled further commits, up to this number, after so many device calls; a
-- checkpoint that was finished, and raised the base count to this
pub data Note : Type 0 where
  Commits : (entry : Entry) → Note
  Settles : (number calls : ℕ) → Note
  Raises : (base : ℕ) → Note

-- the entries, none of them settled
abbrev pub entries_in : List Note → List Entry
entries_in [] = []
entries_in (Commits entry ∷ notes) = entry ∷ entries_in notes
entries_in (Settles number calls ∷ notes) = entries_in notes
entries_in (Raises base ∷ notes) = entries_in notes

-- the device calls of the first flush that settled the commit with this number; 0 where none did
abbrev pub calls_in : List Note → ℕ → ℕ
calls_in [] number = 0
calls_in (Commits entry ∷ notes) number = calls_in notes number
calls_in (Settles reached calls ∷ notes) number =
    if nat_le number reached then calls else calls_in notes number
calls_in (Raises base ∷ notes) number = calls_in notes number

-- the entry, settled after so many calls
abbrev pub settled_at : ℕ → Entry → Entry
settled_at calls entry = record entry { settled = calls }

-- the history: each entry with the calls after which it was settled
abbrev pub history_in : List Note → List Entry
history_in notes = map (λ entry. settled_at (calls_in notes entry.number) entry) (entries_in notes)

-- the number of the last commit
abbrev pub last_commit : ℕ → List Note → ℕ
last_commit kept notes = kept + length (entries_in notes)

-- the number up to which commits are settled: all that the mount found are
abbrev pub settled_upto : ℕ → List Note → ℕ
settled_upto kept [] = kept
settled_upto kept (Commits entry ∷ notes) = settled_upto kept notes
settled_upto kept (Settles number calls ∷ notes) = settled_upto number notes
settled_upto kept (Raises base ∷ notes) = settled_upto kept notes

-- the device calls of the last flush that settled any, or what they were before
abbrev pub last_calls : ℕ → List Note → ℕ
last_calls before [] = before
last_calls before (Commits entry ∷ notes) = last_calls before notes
last_calls before (Settles number calls ∷ notes) = last_calls calls notes
last_calls before (Raises base ∷ notes) = last_calls before notes

-- the base count
abbrev pub base_number : ℕ → List Note → ℕ
base_number base [] = base
base_number base (Commits entry ∷ notes) = base_number base notes
base_number base (Settles number calls ∷ notes) = base_number base notes
base_number base (Raises higher ∷ notes) = base_number higher notes

-- the tree after all commits
abbrev pub tree_in : Mounted → List Note → Tree
tree_in mounted notes =
    tree_at mounted.tree (entries_in notes) (last_commit mounted.kept notes)

-- the entry is the next commit: its number follows, its steps are all done, upkeep has none
pub record IsNextEntry (mounted : Mounted) (notes : List Note) (entry : Entry) : Type 0 where
  pub number : entry.number ≡ last_commit mounted.kept notes + 1
  pub unsettled : entry.settled ≡ 0
  pub done : IsOk (do_all (tree_in mounted notes) entry.steps)
  pub upkeep : entry.who ≡ 0 → entry.steps ≡ []

-- further commits are settled, after no fewer device calls than those before
pub record IsNextFlush (mounted : Mounted) (notes : List Note) (number calls : ℕ) : Type 0 where
  pub further : settled_upto mounted.kept notes < number
  pub within : number ≤ last_commit mounted.kept notes
  pub some : 0 < calls
  pub later : last_calls 0 notes ≤ calls

-- the base count does not fall, and does not pass the last commit
pub record IsNextBase (mounted : Mounted) (notes : List Note) (base : ℕ) : Type 0 where
  pub rises : base_number mounted.base notes ≤ base
  pub within : base ≤ last_commit mounted.kept notes

-- the note may follow the others
abbrev pub IsNextNote : Mounted → List Note → Note → Type 0
IsNextNote mounted notes (Commits entry) = IsNextEntry mounted notes entry
IsNextNote mounted notes (Settles number calls) = IsNextFlush mounted notes number calls
IsNextNote mounted notes (Raises base) = IsNextBase mounted notes base

-- each of the later notes may follow those before it
abbrev pub FollowOn : Mounted → List Note → List Note → Type 0
FollowOn mounted former [] = Unit {0}
FollowOn mounted former (note ∷ latter) =
    IsNextNote mounted former note × FollowOn mounted (former ++ note ∷ []) latter

-- notes of what may have happened since the mount
abbrev pub AreNotes : Mounted → List Note → Type 0
AreNotes mounted notes = FollowOn mounted [] notes

-- the entry as it was before a step of a session, which began after so many calls, and after it:
-- only where it was not settled it may be settled, and then by a later call
pub record OnlySettles (calls : ℕ) (old new : Entry) : Type 0 where
  pub same : new ≡ settled_at new.settled old
  pub kept : 0 < old.settled → new.settled ≡ old.settled
  pub later : old.settled ≡ 0 → (new.settled ≡ 0) ⊎ (calls < new.settled)

-- a step of a session goes on from one history to another: entries stand behind those that were
-- there, and of these only some are settled
pub record GoesOnTo (calls : ℕ) (old new : List Entry) : Type 0 where
  pub longer : length old ≤ length new
  pub each : (i : ℕ) (before after : Entry) → slice_get old i ≡ Some before
      → slice_get new i ≡ Some after → OnlySettles calls before after

-- the note tells of no flush that was done by so many calls
abbrev pub ComesAfter : ℕ → Note → Type 0
ComesAfter calls (Commits entry) = Unit {0}
ComesAfter calls (Settles number done) = calls < done
ComesAfter calls (Raises base) = Unit {0}
