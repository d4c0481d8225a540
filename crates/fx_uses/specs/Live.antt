-- Transactions as what they do to blocks, and which blocks are live after each of them.
use Rattle.std.specs.Prelude.{◌≡◌, ℕ, ◌+◌, Bool, if◌then◌else◌, nat_le, Option, Some, None, IsSome, List, [], ◌∷◌, slice_get}
use Rattle.fx_item.specs.Item.{PlainItem}
use Rattle.fx_verify.specs.Kept.{last_stated, written_by, is_freed_by}

-- A transaction: its number, the blocks that it writes, each with the sum that its record states, and
-- which blocks it frees.
pub record Txn : Type 0 where
  pub number : ℕ
  pub puts : List (ℕ × ℕ)
  pub frees : ℕ → Bool

-- A record's items as a transaction.
abbrev pub txn_of : ℕ × List PlainItem → Txn
txn_of x = record { number = x.0; puts = written_by x.1; frees = is_freed_by x.1 }

-- the sum that a list of puts states for a block; the last one decides
abbrev pub put_in : ℕ → List (ℕ × ℕ) → Option ℕ
put_in b puts = last_stated b puts None

abbrev pub put_over : Option ℕ → Option ℕ → Option ℕ
put_over None old = old
put_over (Some sum) old = Some sum

-- the sum of a live block, None for others, after one transaction
abbrev pub after_txn : ℕ → Txn → Option ℕ → Option ℕ
after_txn b t old = put_over (put_in b t.puts) (if t.frees b then None else old)

-- and after those of a list that are numbered at most `k`
abbrev pub live_from : ℕ → ℕ → List Txn → Option ℕ → Option ℕ
live_from b k [] old = old
live_from b k (t ∷ ts) old =
    live_from b k ts (if nat_le t.number k then after_txn b t old else old)

-- The sum that is stated for the block `b` where it is live after number `k`, given the live blocks
-- before the first transaction.
abbrev pub live_after : (ℕ → Option ℕ) → List Txn → ℕ → ℕ → Option ℕ
live_after first txns k b = live_from b k txns (first b)

-- The numbers follow each other.
pub record AreNumbered (base : ℕ) (txns : List Txn) : Type 0 where
  pub each : (i : ℕ) (t : Txn) → slice_get txns i ≡ Some t → t.number ≡ base + i + 1

-- The transaction numbered `n` writes the block.
pub record IsPut (txns : List Txn) (n b : ℕ) : Type 0 where
  pub at : ℕ
  pub txn : Txn
  pub got : slice_get txns at ≡ Some txn
  pub number : txn.number ≡ n
  pub written : IsSome (put_in b txn.puts)
