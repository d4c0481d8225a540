-- The first place of a list that passes a test, and how many pass.
use Rattle.std.proofs.Common.{◌≡◌, ℕ, ◌+◌, ◌<◌, ◌≤◌, suc, Bool, true, false, cond, List, [], ◌∷◌, length, get_or, Some, None, count_by, refl, sym, ◌∙◌, subst, arith, ltb, position}
use Rattle.std.specs.List.{position_or_len}
use Rattle.std.proofs.lemmas.Bool.{ltb-true, ltb-false, true≢false}
use Rattle.std.proofs.lemmas.List.Sums.{passes_at_first, fails_before_first, sum_by-cons}
use Rattle.std.proofs.lemmas.Option.{none-some}

known_place : (b : Bool) (n len i : ℕ) → ltb n len ≡ b → cond b (Some n) None ≡ Some i → (n < len) × (n ≡ i)
known_place true n len i e s = (ltb-true n len e, (cc))
known_place false n len i e s = absurd (none-some i s)

no_place : (b : Bool) (n len : ℕ) → ltb n len ≡ b → cond b (Some n) None ≡ None → len ≤ n
no_place true n len e s = absurd (none-some n (sym s))
no_place false n len e s = ltb-false n len e

pub position-some : {X : Type 0} (p : X → Bool) (xs : List X) (i : ℕ) (d : X) → position p xs ≡ Some i → (i < length xs) × (p (get_or xs i d) ≡ true)
position-some p xs i d e =
    let h : (position_or_len p xs < length xs) × (position_or_len p xs ≡ i) = known_place (ltb (position_or_len p xs) (length xs)) (position_or_len p xs) (length xs) i refl e in
    (subst (λ n. n < length xs) h.1 h.0, subst (λ n. p (get_or xs n d) ≡ true) h.1 (passes_at_first p xs d h.0))

pub position-none : {X : Type 0} (p : X → Bool) (xs : List X) (k : ℕ) (d : X) → position p xs ≡ None → k < length xs → p (get_or xs k d) ≡ false
position-none p xs k d e l =
    let h : length xs ≤ position_or_len p xs = no_place (ltb (position_or_len p xs) (length xs)) (position_or_len p xs) (length xs) refl e in
    fails_before_first p xs k d (omega arith)

pub none_pass : {X : Type 0} (p : X → Bool) (xs : List X) (d : X) → ((k : ℕ) → k < length xs → p (get_or xs k d) ≡ false) → count_by p xs ≡ 0
none_pass p [] d h = refl
none_pass p (x ∷ xs) d h =
    let e : p x ≡ false = h 0 (omega arith) in
    let r : count_by p xs ≡ 0 = none_pass p xs d (λ k l. h (suc k) (omega (arith, l))) in
    sum_by-cons (λ y. cond (p y) 1 0) x xs ∙ added (p x) (count_by p xs) e r
  where
    added : (b : Bool) (n : ℕ) → b ≡ false → n ≡ 0 → cond b 1 0 + n ≡ 0
    added true n e r = absurd (true≢false e)
    added false n e r = omega arith
