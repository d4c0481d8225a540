-- Parts by their numbers: who has which, and what is put together and cut off.
use Rattle.std.specs.Prelude.{◌≡◌, ℕ, ◌++◌, ◌&&◌, Bool, true, not, eqb, Some}
use Rattle.std.specs.Ordering.{nat_cmp}
use Rattle.std.specs.FinMap.{FinMap, entries, get, contains_key, retain_keys, from_entries}

abbrev pub Parts : Type 0 → Type 0
Parts P = FinMap nat_cmp P

module _ {P : Type 0} where
  -- the number has a part
  abbrev pub Has : Parts P → ℕ → Type 0
  Has m q = contains_key m q ≡ true

  -- each part of m stands in n too, at its number
  abbrev pub IsWithin : Parts P → Parts P → Type 0
  IsWithin m n = (q : ℕ) (p : P) → get m q ≡ Some p → get n q ≡ Some p

  -- no number has a part in both
  abbrev pub AreApart : Parts P → Parts P → Type 0
  AreApart m n = (q : ℕ) → Has m q → ¬ Has n q

  -- the part of one number alone
  abbrev pub only : ℕ → Parts P → Parts P
  only who m = retain_keys m (λ q. eqb q who)

  -- all parts but that of one number
  abbrev pub without : ℕ → Parts P → Parts P
  without who m = retain_keys m (λ q. not (eqb q who))

  -- the parts of both; at a number that has one in each, that of the first
  abbrev pub union : Parts P → Parts P → Parts P
  union m n = from_entries (entries m ++ entries n)

  -- whether a number's part, of all parts, is another's: it is not among mine
  abbrev pub is_others : Parts P → Parts P → ℕ → Bool
  is_others all mine q = contains_key all q && not (contains_key mine q)

  -- the parts of the others, of those in old, are in new as they were
  abbrev pub KeepsOthers : Parts P → Parts P → Parts P → Type 0
  KeepsOthers old mine new = (q : ℕ) → is_others old mine q ≡ true → get new q ≡ get old q

  -- new without the numbers that were others' in old
  abbrev pub without_others : Parts P → Parts P → Parts P → Parts P
  without_others old mine new = retain_keys new (λ q. not (is_others old mine q))
