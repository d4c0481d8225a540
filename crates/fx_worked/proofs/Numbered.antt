-- The number that is kept, tried from the top.
use Rattle.std.proofs.Common.{◌≡◌, inl, inr, ℕ, ◌+◌, ◌-◌, ◌<◌, ◌≤◌, List, [], take, length, Some, None, sym, ap, subst, ◌∙◌, arith}
use Rattle.std.proofs.lemmas.Bool.{cases_lt}
use Rattle.std.proofs.lemmas.List.{length-map, take-map}
use Rattle.fx_item.specs.Item.{PlainItem, items_of}
use Rattle.fx_item.specs.declared.item.Item.{Item}
use Rattle.fx_verify.specs.Kept.{IsKeptNumber, Passes, plain_txns}

-- none of the transactions beyond so many passes
abbrev pub NoMore : List (ℕ × List Item) → List (ℕ × ℕ) → ℕ → Type 0
NoMore txns found count = (n : ℕ) → count < n → n ≤ length txns → Passes (plain_txns (take n txns)) found → ⊥

pub no_more_less : (txns : List (ℕ × List Item)) (found : List (ℕ × ℕ)) (i : ℕ) → i < length txns → NoMore txns found (length txns - i) → (Passes (plain_txns (take (length txns - i) txns)) found → ⊥) → NoMore txns found (length txns - (i + 1))
no_more_less txns found i lt above here n more most passes = elim (cases_lt (length txns - i) n) [
  | inl past ↦ above n past most passes
  | inr le ↦ let same : n ≡ length txns - i = omega arith in here (subst (λ m. Passes (plain_txns (take m txns)) found) same passes)
]

pub kept_here : (base : ℕ) (txns : List (ℕ × List Item)) (found : List (ℕ × ℕ)) (count : ℕ) → count ≤ length txns → Passes (plain_txns (take count txns)) found → NoMore txns found count → IsKeptNumber base (plain_txns txns) found (base + count)
kept_here base txns found count le passes above = record {
  least = omega arith;
  most = omega (arith, as_many);
  passes = let same : base + count - base ≡ count = omega arith in subst (λ ts. Passes ts found) (sym (at_count (base + count - base) ∙ ap (λ m. plain_txns (take m txns)) same)) passes;
  greatest = λ j more most holds. above (j - base) (omega arith) (omega (arith, as_many)) (subst (λ ts. Passes ts found) (at_count (j - base)) holds);
}
  where
    plain : ℕ × List Item → ℕ × List PlainItem
    plain t = (t.0, items_of t.1)

    at_count : (n : ℕ) → take n (plain_txns txns) ≡ plain_txns (take n txns)
    at_count n = take-map plain n txns

    as_many : length (plain_txns txns) ≡ length txns
    as_many = length-map txns plain

none_is_some : (x : ℕ) → None ≡ Some x → ⊥
none_is_some x e = absurd (cc e)

pub nothing_fails : (found : List (ℕ × ℕ)) → Passes [] found
nothing_fails found b x is = absurd (none_is_some x is)
