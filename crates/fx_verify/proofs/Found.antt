-- The pairs that were found, put into a set one by one.
use Rattle.std.proofs.Common.{◌≡◌, ℕ, ◌+◌, ◌<◌, ◌==◌, ◌&&◌, ◌||◌, Bool, true, cond, List, take, get_or, length, refl, sym, ap, ◌∙◌}
use Rattle.std.specs.Ordering.{is_eq, nat_cmp, ordering_then}
use Rattle.std.specs.declared.cmp.Ordering.{Ordering}
use Rattle.std.specs.declared.cmp.Ordering.TheVariants.{Less, Equal, Greater}
use Rattle.std.proofs.lemmas.List.Folds.{list_any_more}
use Rattle.fx_verify.proofs.Numbers.{either, is_eq_nat}
use Rattle.fx_verify.specs.Wrong.{is_found, pair_cmp}

-- the test of the order is the test of both parts
then_is : (a b : Ordering) → is_eq (ordering_then a b) ≡ (is_eq a && is_eq b)
then_is Less b = refl
then_is Equal b = refl
then_is Greater b = refl

pub found_more : (found : List (ℕ × ℕ)) (i : ℕ) (p : ℕ × ℕ) (old new : ℕ → ℕ → Bool) → i < length found → p ≡ get_or found i p
    → ((block sum : ℕ) → old block sum ≡ is_found (take i found) block sum)
    → ((q : ℕ × ℕ) → new q.0 q.1 ≡ cond (is_eq (pair_cmp p q)) true (old q.0 q.1))
    → (block sum : ℕ) → new block sum ≡ is_found (take (i + 1) found) block sum
found_more found i p old new lt is before step block sum =
    let test : is_eq (pair_cmp p (block, sum)) ≡ (p.0 == block && p.1 == sum) =
    then_is (nat_cmp p.0 block) (nat_cmp p.1 sum) ∙ (λ j. is_eq_nat p.0 block j && is_eq_nat p.1 sum j) in
    let more = list_any_more (λ q. q.0 == block && q.1 == sum) found i p lt in
    step (block, sum) ∙ ap (λ t. cond t true (old block sum)) test ∙ either (old block sum) (p.0 == block && p.1 == sum)
    ∙ (λ j. before block sum j || ((λ (q : ℕ × ℕ). q.0 == block && q.1 == sum) (is j))) ∙ sym more
