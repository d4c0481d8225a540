-- Histories: what was committed, and the trees that it leads to.
use Rattle.std.specs.Prelude.{◌≡◌, ℕ, ◌+◌, ◌<◌, ◌≤◌, zero, suc, List, [], Some, IsOk, nat_le, filter, fold, map, slice_get}
use Rattle.std.specs.Result.{result_unwrap_or}
use Rattle.fx_plain.specs.Tree.{Tree}
use Rattle.fx_plain.specs.Table.{do_all}
use Rattle.fx_history.specs.declared.entry.Entry.{Entry}

-- the tree after an entry whose steps are all done
abbrev pub tree_after : Tree → Entry → Tree
tree_after tree entry = result_unwrap_or (do_all tree entry.steps) tree

-- the tree after the entries with numbers up to this one
abbrev pub tree_at : Tree → List Entry → ℕ → Tree
tree_at tree history number =
    fold tree_after tree (filter (λ entry. nat_le entry.number number) history)

-- The history can have been made on this tree after `base` commits.
pub record Legal (tree : Tree) (base : ℕ) (history : List Entry) : Type 0 where
  -- the numbers follow each other from base + 1 on
  pub numbered : (i : ℕ) (entry : Entry) → slice_get history i ≡ Some entry
      → entry.number ≡ base + i + 1
  -- each entry's steps are all done on the tree before it
  pub done : (i : ℕ) (entry : Entry) → slice_get history i ≡ Some entry
      → IsOk (do_all (tree_at tree history (base + i)) entry.steps)
  -- upkeep has no steps
  pub upkeep : (i : ℕ) (entry : Entry) → slice_get history i ≡ Some entry → entry.who ≡ 0
      → entry.steps ≡ []
  -- entries settle in their order
  pub settles : (i j : ℕ) (earlier later : Entry) → i < j → slice_get history i ≡ Some earlier
      → slice_get history j ≡ Some later → 0 < later.settled
      → (0 < earlier.settled) × (earlier.settled ≤ later.settled)

-- The first so many entries are settled, and the others are not.
pub record SettledFirst (count : ℕ) (history : List Entry) : Type 0 where
  pub before : (i : ℕ) (entry : Entry) → slice_get history i ≡ Some entry → i < count
      → 0 < entry.settled
  pub after : (i : ℕ) (entry : Entry) → slice_get history i ≡ Some entry → count ≤ i
      → entry.settled ≡ 0

-- when an entry was settled: as before, or now where it was not
abbrev pub settled_by : ℕ → ℕ → ℕ
settled_by calls zero = calls
settled_by calls (suc before) = suc before

-- the entry, settled after so many device calls if it was not settled before
abbrev pub settle_entry : ℕ → Entry → Entry
settle_entry calls entry = record entry { settled = settled_by calls entry.settled }

-- the history, where the entries that were not settled are settled after so many device calls
abbrev pub settle : ℕ → List Entry → List Entry
settle calls history = map (settle_entry calls) history
