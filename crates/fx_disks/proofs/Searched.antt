-- What a binary search tells of ascending numbers.
use Rattle.std.proofs.Common.{◌≡◌, ◌↔◌, ℕ, ◌<◌, ◌≤◌, List, length, get_or, Result, Ok, Err, is_ok, IsTrue, Contains, arith, refl, ◌∙◌, sym, subst, ⊎_elim}
use Rattle.std.proofs.lemmas.List.{get_or_default}
use Rattle.std.proofs.lemmas.Bool.{cases_lt}
use Rattle.std.proofs.lemmas.List.Sorted.{searched, IsNonDecreasingBy-from_sort}
use Rattle.std.specs.List.Sorted.{IsBinarySearchResult, IsSorted}
use Rattle.std.specs.Ordering.{nat_cmp}
use Rattle.std.specs.Result.{MatchResult}

found-is : (xs : List ℕ) (x : ℕ) (r : Result ℕ ℕ) → MatchResult r (λ i. (i < length xs) × (get_or xs i 0 ≡ x)) (λ i. (i ≤ length xs) × ((k : ℕ) → k < i → get_or xs k 0 < x) × ((k : ℕ) → i ≤ k → k < length xs → x < get_or xs k 0)) → IsTrue (is_ok r) ↔ Contains xs x
found-is xs x (Ok i) h = ((λ _. (i, h.0, get_or_default xs i x 0 h.0 ∙ h.1)), (λ _. refl))
found-is xs x (Err i) h = (
  (λ e. absurd (cc)),
  (λ held.
      let e : get_or xs held.0 0 ≡ x = get_or_default xs held.0 0 x held.1 ∙ held.2 in
      ⊎_elim
      (λ lt. absurd (omega (arith, h.1 held.0 lt)))
      (λ ge. absurd (omega (arith, h.2 held.0 ge held.1)))
      (cases_lt held.0 i)),
)

pub found : (xs : List ℕ) (x : ℕ) (r : Result ℕ ℕ) → IsSorted nat_cmp xs → IsBinarySearchResult (λ y. nat_cmp y x) xs r → IsTrue (is_ok r) ↔ Contains xs x
found xs x r sorted position = found-is xs x r (searched xs x r position (λ i j le lt. IsNonDecreasingBy-from_sort (λ y. y) xs sorted i j 0 le lt))
