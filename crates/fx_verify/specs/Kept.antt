-- What transactions say of the blocks that they write, and which transactions an image keeps.
use Rattle.std.specs.Prelude.{◌≡◌, ℕ, ◌+◌, ◌-◌, ◌<◌, ◌≤◌, ◌==◌, ◌&&◌, nat_le, nat_lt, Bool, true, false, if◌then◌else◌, List, [], ◌∷◌, length, map, filter, take, Option, None, Some}
use Rattle.std.specs.List.{Contains, flat_map, fold, list_any}
use Rattle.fx_item.specs.Item.{PlainKey, ExtentKey, AllocationKey, PlainValue, GoneValue, ExtentValue, TakenValue, PlainItem, items_of}
use Rattle.fx_item.specs.declared.item.Item.{Item}

-- ---- one transaction, by its items

-- neighbouring blocks from this one on, each with its sum
abbrev pub with_sums : ℕ → List ℕ → List (ℕ × ℕ)
with_sums block [] = []
with_sums block (sum ∷ sums) = (block, sum) ∷ with_sums (block + 1) sums

abbrev pub sums_under : PlainKey → PlainValue → List (ℕ × ℕ)
sums_under (ExtentKey store id start stop) (ExtentValue block sums) = with_sums block sums
sums_under _ _ = []

-- the blocks of an extent, each with the sum that is stated for it
abbrev pub block_sums_of : PlainItem → List (ℕ × ℕ)
block_sums_of x = sums_under x.key x.value

abbrev pub is_within : ℕ → ℕ → ℕ → Bool
is_within start stop block = nat_le start block && nat_lt block stop

abbrev pub is_taken_under : ℕ → PlainKey → PlainValue → Bool
is_taken_under block (AllocationKey start stop) TakenValue = is_within start stop block
is_taken_under block _ _ = false

abbrev pub is_freed_under : ℕ → PlainKey → PlainValue → Bool
is_freed_under block (AllocationKey start stop) GoneValue = is_within start stop block
is_freed_under block _ _ = false

-- whether the transaction takes the block, and whether it frees it
abbrev pub is_taken_by : List PlainItem → ℕ → Bool
is_taken_by items block = list_any (λ x. is_taken_under block x.key x.value) items

abbrev pub is_freed_by : List PlainItem → ℕ → Bool
is_freed_by items block = list_any (λ x. is_freed_under block x.key x.value) items

-- The blocks that the transaction writes, each with its sum: those of its extents that it takes.
abbrev pub written_by : List PlainItem → List (ℕ × ℕ)
written_by items = filter (λ p. is_taken_by items p.0) (flat_map block_sums_of items)

-- whether it writes the block
abbrev pub writes_block : List PlainItem → ℕ → Bool
writes_block items block = list_any (λ p. p.0 == block) (written_by items)

-- ---- transactions one after another

-- the program's transactions, each a number and its items, as plain data
abbrev pub plain_txns : List (ℕ × List Item) → List (ℕ × List PlainItem)
plain_txns txns = map (λ t. (t.0, items_of t.1)) txns

-- whether one of them writes the block
abbrev pub is_written : List (ℕ × List PlainItem) → ℕ → Bool
is_written txns block = list_any (λ t. writes_block t.1 block) txns

-- what the list states last for the block, and what stood before where it states nothing
abbrev pub last_stated : ℕ → List (ℕ × ℕ) → Option ℕ → Option ℕ
last_stated block [] old = old
last_stated block (p ∷ ps) old = last_stated block ps (if p.0 == block then Some p.1 else old)

abbrev pub after_items : ℕ → Option ℕ → List PlainItem → Option ℕ
after_items block old items =
    last_stated block (written_by items) (if is_freed_by items block then None else old)

-- The sum that is stated for the block, where a transaction of the list wrote it and it is live after
-- all of them.
abbrev pub live_sum : List (ℕ × List PlainItem) → ℕ → Option ℕ
live_sum txns block = fold (λ old t. after_items block old t.1) None txns

-- ---- what an image keeps

-- Each block that these transactions wrote and that is live after them was found with its stated sum. A
-- block that is not named in `found`, as one where no data can lie, counts as without it.
abbrev pub Passes : List (ℕ × List PlainItem) → List (ℕ × ℕ) → Type 0
Passes txns found = (block sum : ℕ) → live_sum txns block ≡ Some sum → Contains found (block, sum)

-- The greatest number up to which they pass. A number that fails may stand below it.
pub record IsKeptNumber (base : ℕ) (txns : List (ℕ × List PlainItem)) (found : List (ℕ × ℕ)) (k : ℕ)
    : Type 0 where
  pub least : base ≤ k
  pub most : k ≤ base + length txns
  pub passes : Passes (take (k - base) txns) found
  pub greatest : (j : ℕ) → k < j → j ≤ base + length txns → Passes (take (j - base) txns) found → ⊥

-- ---- laws

-- what is live was written
abbrev pub LiveIsWritten : Type 0
LiveIsWritten = (txns : List (ℕ × List PlainItem)) (block sum : ℕ) →
    live_sum txns block ≡ Some sum → is_written txns block ≡ true

-- there is such a number
abbrev pub KeptExists : Type 0
KeptExists = (base : ℕ) (txns : List (ℕ × List PlainItem)) (found : List (ℕ × ℕ)) →
    (k : ℕ) × IsKeptNumber base txns found k

-- and no other
abbrev pub KeptIsOne : Type 0
KeptIsOne = (base : ℕ) (txns : List (ℕ × List PlainItem)) (found : List (ℕ × ℕ)) (j k : ℕ) →
    IsKeptNumber base txns found j → IsKeptNumber base txns found k → j ≡ k
