-- What the numbers of a mounted disk share, as their calls see it, and when a call is an event.
use Rattle.std.specs.Prelude.{◌≡◌, ℕ, ◌+◌, ◌<◌, ◌≤◌, ◌^◌, List, None, Some, drop, ◌∷◌, refl}
use Rattle.std.specs.Coded.{Coded, code_by, coded×, coded_ℕ}
use Rattle.std.specs.FinMap as finite
use Rattle.std.specs.Ordering.{nat_cmp}
use Rattle.fx_item.specs.Item.{PlainItem}
use Rattle.fx_item.specs.declared.space.Need.{Need}
use Rattle.fx_keys.specs.Table.{Table}
use Rattle.fx_keys.specs.declared.table.TheConstants.{MAX_NUMBERS}
use Rattle.fx_layerset.specs.Levels.{SetLevels, batch_level, item_lists, newest_first}
use Rattle.fx_plain.specs.Tree.{Tree}
use Rattle.fx_events.specs.Notes.{Mounted, Note, last_commit}
use Rattle.fx_parts.specs.Live.{MakesNames}
use Rattle.fx_parts.specs.Parts.{Part, Reservation, SharedState}
use Rattle.fx_parts.specs.Happening.{MayHappen, SharedEvent, after_event, opened_state}
use Rattle.fx_numbers.specs.Noted.{NoteList}
use Rattle.fx_numbers.specs.Shots.{Shot}
use Rattle.fx_numbers.specs.Slots.{PartMap}
use Rattle.fx_numbers.specs.declared.given.Found.{Found}

-- The shared state, without the tree that the mount found, which lies in no field: the number of the
-- last commit that the mount found, its base count, the blocks of the disk and of its ring; the notes
-- since; the levels now; the key table; the parts; the first id and the first store that were not
-- given out yet; the disk's count of faults.
pub record NumbersState : Type 0 where
  pub kept : ℕ
  pub base : ℕ
  pub blocks : ℕ
  pub ring : ℕ
  pub notes : List Note
  pub levels : SetLevels
  pub table : Table
  pub parts : finite.FinMap nat_cmp Part
  pub ids : ℕ
  pub stores : ℕ
  pub faults : ℕ

-- what levels hold, the newest list first
abbrev pub lists_in : SetLevels → List (List PlainItem)
lists_in levels = item_lists (newest_first levels)

-- what the mount found, with this tree
abbrev pub mounted_with : Tree → NumbersState → Mounted
mounted_with tree s = record {
  tree = tree;
  kept = s.kept;
  base = s.base;
  blocks = s.blocks;
  ring = s.ring;
}

-- the shared state, with this tree found
abbrev pub shared_of : Tree → NumbersState → SharedState
shared_of tree s = record {
  mounted = mounted_with tree s;
  notes = s.notes;
  lists = lists_in s.levels;
  table = s.table;
  parts = s.parts;
  ids = s.ids;
  stores = s.stores;
  faults = s.faults;
}

-- the number of the last commit
abbrev pub commit_now : NumbersState → ℕ
commit_now s = last_commit s.kept s.notes

-- the number is in use, and its part is so
abbrev pub HasUsedPart : NumbersState → ℕ → (Part → Type 0) → Type 0
HasUsedPart s who P = (part : Part) × (finite.get s.parts who ≡ Some part) × P part

-- it is in use
abbrev pub IsUsed : NumbersState → ℕ → Type 0
IsUsed s who = HasUsedPart s who (λ part. Unit {0})

-- The number is none that is in use.
pub record IsFreeNumber (s : NumbersState) (who : ℕ) : Type 0 where
  pub free : finite.get s.parts who ≡ None
  pub first : 1 ≤ who
  pub few : who ≤ MAX_NUMBERS

abbrev pub HasFreeNumber : NumbersState → Type 0
HasFreeNumber s = (who : ℕ) × IsFreeNumber s who

-- the free number is the least of them
pub record IsLeastFree (s : NumbersState) (who : ℕ) : Type 0 where
  pub free : IsFreeNumber s who
  pub least : (other : ℕ) → IsFreeNumber s other → who ≤ other

-- so many ids and stores can still be given
pub record CanGive (s : NumbersState) (nodes : ℕ) : Type 0 where
  pub ids : s.ids + nodes < 2 ^ 63
  pub stores : s.stores + nodes < 2 ^ 32

-- what is reserved next
abbrev pub reserved_next : NumbersState → Need → ℕ → Reservation
reserved_next s need bytes = record { need = need; bytes = bytes; id = s.ids; store = s.stores }

-- what a snapshot shows now
abbrev pub shot_now : NumbersState → Shot
shot_now s = record { point = commit_now s; levels = s.levels }

-- the levels, where one batch stands in the place of the oldest ones, so many
abbrev pub tidy_levels : SetLevels → (below : ℕ) → List PlainItem → SetLevels
tidy_levels levels below items =
    record levels { batches = batch_level items ∷ drop below levels.batches }

-- ---- calls as events

-- whatever tree was found: the state is the one after the event
abbrev pub IsStepBy : (old new : NumbersState) → SharedEvent → Type 0
IsStepBy old new event = (tree : Tree) → shared_of tree new ≡ after_event (shared_of tree old) event

-- whatever tree was found: the event may happen. Of a commit this depends on the tree.
abbrev pub MayStep : NumbersState → SharedEvent → Type 0
MayStep s event = (tree : Tree) → MayHappen MakesNames (shared_of tree s) event

-- The call is this event.
pub record IsStep (old new : NumbersState) (event : SharedEvent) : Type 0 where
  pub may : MayStep old event
  pub does : IsStepBy old new event

-- the numbers of a disk that was just mounted
abbrev pub IsOpened : Found → SetLevels → NumbersState → Type 0
IsOpened found levels s = (tree : Tree) → shared_of tree s ≡ opened_state (record {
  tree = tree;
  kept = found.kept;
  base = found.base;
  blocks = found.blocks;
  ring = found.ring;
}) (lists_in levels) found.ids found.stores found.faults

-- ---- how a state is told apart

abbrev pub numbers_code : Coded NoteList → Coded Shot → Coded Table → Coded PartMap
    → Coded NumbersState
numbers_code notes shot table parts =
    code_by
    (NoteList × (Shot × (Table × (PartMap × ((ℕ × ℕ) × ((ℕ × ℕ) × ((ℕ × ℕ) × ℕ)))))))
    (coded× notes (coded× shot (coded× table (coded× parts
    (coded× (coded× coded_ℕ coded_ℕ) (coded× (coded× coded_ℕ coded_ℕ)
    (coded× (coded× coded_ℕ coded_ℕ) coded_ℕ)))))))
    (λ s. (
      record { notes = s.notes; room = 0 },
      (
        record { point = 0; levels = s.levels },
        (
          s.table,
          (
            record { parts = s.parts; reserved = 0; places = 0 },
            (
              (s.kept, s.base),
              ((s.blocks, s.ring), ((s.ids, s.stores), s.faults)),
            ),
          ),
        ),
      ),
    ))
    (λ p. record {
      kept = p.1.1.1.1.0.0;
      base = p.1.1.1.1.0.1;
      blocks = p.1.1.1.1.1.0.0;
      ring = p.1.1.1.1.1.0.1;
      notes = p.0.notes;
      levels = p.1.0.levels;
      table = p.1.1.0;
      parts = p.1.1.1.0.parts;
      ids = p.1.1.1.1.1.1.0.0;
      stores = p.1.1.1.1.1.1.0.1;
      faults = p.1.1.1.1.1.1.1;
    })
    (λ _. refl)
