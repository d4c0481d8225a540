-- Which live blocks were not found with the sum that is stated for them.
use Rattle.std.specs.Prelude.{◌≡◌, ℕ, ◌==◌, ◌&&◌, Bool, false, not, if◌then◌else◌, List, Option, None, Some}
use Rattle.std.specs.List.{list_any}
use Rattle.std.specs.Ordering.{nat_cmp, ordering_then}
use Rattle.std.specs.declared.cmp.Ordering.{Ordering}
use Rattle.std.specs.BTreeSet.{BTreeSet, contains}
use Rattle.fx_item.specs.Item.{PlainItem}
use Rattle.fx_verify.specs.Kept.{after_items}

-- the block was found with the sum
abbrev pub is_found : List (ℕ × ℕ) → ℕ → ℕ → Bool
is_found found block sum = list_any (λ p. p.0 == block && p.1 == sum) found

-- The block is live, and was not found with its sum, where `found` tells which blocks were found with
-- which sums.
abbrev pub is_wrong : (ℕ → ℕ → Bool) → ℕ → Option ℕ → Bool
is_wrong found block None = false
is_wrong found block (Some sum) = not (found block sum)

-- a set of blocks
abbrev pub holds_block : BTreeSet ℕ → ℕ → Bool
holds_block set = contains nat_cmp set

-- A set of the wrong blocks before a transaction becomes the set of those after it, whichever blocks
-- are live.
abbrev pub KeepsWrong : (ℕ → ℕ → Bool) → List PlainItem → (ℕ → Bool) → (ℕ → Bool) → Type 0
KeepsWrong found items old new = (live : ℕ → Option ℕ)
    → ((block : ℕ) → old block ≡ is_wrong found block (live block))
    → (block : ℕ) → new block ≡ is_wrong found block (after_items block (live block) items)

abbrev pub pair_cmp : ℕ × ℕ → ℕ × ℕ → Ordering
pair_cmp x y = ordering_then (nat_cmp x.0 y.0) (nat_cmp x.1 y.1)

-- a set of blocks, each with a sum
abbrev pub holds_pair : BTreeSet (ℕ × ℕ) → ℕ → ℕ → Bool
holds_pair set block sum = contains pair_cmp set (block, sum)

-- whether a block is wrong after one more is written
abbrev pub judged : (ℕ → ℕ → Bool) → ℕ → Bool → ℕ × ℕ → Bool
judged found block wrong p = if p.0 == block then not (found p.0 p.1) else wrong
