-- The views of all seats, when one has changed or come, and sums over them.
use Rattle.std.proofs.Common.{◌≡◌, ℕ, zero, suc, ◌+◌, ◌≤◌, ◌≢◌, List, [], ◌∷◌, ◌++◌, length, set, sym, refl, ap, ◌∙◌, subst, ⊎_elim, arith, Option, Some, None}
use Rattle.std.proofs.lemmas.List.Sums.{sum_by-cons}
use Rattle.std.specs.List.{sum_by}
use mathlib.Core.Option.{some, some-injective, some-ne-none}
use lib.ListN.{get_elem?}
use Rattle.atomic_table.proofs.Lists.{at_set}

module _ {A : Type 0} where
  pub some_same : (x y : A) → Some x ≡ Some y → x ≡ y
  some_same x y e = cc

  abbrev first_of : Option A → List (ℕ × Option A) → Option A
  first_of d [] = d
  first_of d (p ∷ ps) = p.1

  -- a seat with one slot has one value there
  pub slot_same : (x y : A) → ◌≡◌ {A = List (ℕ × Option A)} ((0, Some x) ∷ []) ((0, Some y) ∷ []) → x ≡ y
  slot_same x y e = some_same x y (ap (first_of None) e)

  pub set_there : (l : List A) (i : ℕ) (a b : A) → get_elem? l i ≡ some a → get_elem? (set l i b) i ≡ some b
  set_there [] i a b e = absurd (some-ne-none a (sym e))
  set_there (x ∷ xs) zero a b e = refl
  set_there (x ∷ xs) (suc i) a b e = set_there xs i a b e

  pub each_one : (K : ℕ → A → Type 0) (w v : A) (k : ℕ) → K 0 w → get_elem? (w ∷ []) k ≡ some v → K k v
  each_one K w v zero h e = subst (K 0) (some-injective w v e) h
  each_one K w v (suc k) h e = absurd (some-ne-none v (sym e))

  -- what holds of each, after one has changed
  pub each_set : (K : ℕ → A → Type 0) (vs : List A) (me : ℕ) (w : A) → K me w → ((j : ℕ) (v : A) → j ≢ me → get_elem? vs j ≡ some v → K j v) → (j : ℕ) (v : A) → get_elem? (set vs me w) j ≡ some v → K j v
  each_set K vs me w mine others j v e = ⊎_elim (λ (t : (j ≡ me) × (w ≡ v)). subst (λ (x : ℕ × A). K x.0 x.1) (λ i. (sym t.0 i, t.1 i)) mine)
      (λ (t : (j ≢ me) × (get_elem? vs j ≡ some v)). others j v t.0 t.1) (at_set vs me j w v e)

  -- and after one has come
  pub each_push : (K : ℕ → A → Type 0) (vs : List A) (w : A) → K (length vs) w → ((j : ℕ) (v : A) → get_elem? vs j ≡ some v → K j v) → (j : ℕ) (v : A) → get_elem? (vs ++ w ∷ []) j ≡ some v → K j v
  each_push K [] w new old zero v e = subst (K 0) (some-injective w v e) new
  each_push K [] w new old (suc j) v e = absurd (some-ne-none v (sym e))
  each_push K (x ∷ xs) w new old zero v e = old zero v e
  each_push K (x ∷ xs) w new old (suc j) v e = each_push (λ (k : ℕ). K (suc k)) xs w new (λ k u is. old (suc k) u is) j v e

  -- a place has one view
  pub at_same : (vs : List A) (i j : ℕ) (u v : A) → get_elem? vs i ≡ some u → get_elem? vs j ≡ some v → i ≡ j → u ≡ v
  at_same vs i j u v e d is = some-injective u v (sym e ∙ (ap (get_elem? vs) is ∙ d))

  module _ (f : A → ℕ) where
    pub sum_set : (vs : List A) (i : ℕ) (v w : A) → get_elem? vs i ≡ some v → sum_by f (set vs i w) + f v ≡ sum_by f vs + f w
    sum_set [] i v w e = absurd (some-ne-none v (sym e))
    sum_set (x ∷ xs) zero v w e = let is : f x ≡ f v = ap f (some-injective x v e) in omega (arith, sum_by-cons f w xs, sum_by-cons f x xs)
    sum_set (x ∷ xs) (suc i) v w e = omega (arith, sum_set xs i v w e, sum_by-cons f x (set xs i w), sum_by-cons f x xs)

    pub sum_one : (vs : List A) (i : ℕ) (v : A) → get_elem? vs i ≡ some v → f v ≤ sum_by f vs
    sum_one [] i v e = absurd (some-ne-none v (sym e))
    sum_one (x ∷ xs) zero v e = let is : f x ≡ f v = ap f (some-injective x v e) in omega (arith, sum_by-cons f x xs)
    sum_one (x ∷ xs) (suc i) v e = omega (arith, sum_one xs i v e, sum_by-cons f x xs)

    pub sum_two : (vs : List A) (i j : ℕ) (v w : A) → i ≢ j → get_elem? vs i ≡ some v → get_elem? vs j ≡ some w → f v + f w ≤ sum_by f vs
    sum_two [] i j v w ne e d = absurd (some-ne-none v (sym e))
    sum_two (x ∷ xs) zero zero v w ne e d = absurd (ne refl)
    sum_two (x ∷ xs) zero (suc j) v w ne e d = let is : f x ≡ f v = ap f (some-injective x v e) in omega (arith, sum_one xs j w d, sum_by-cons f x xs)
    sum_two (x ∷ xs) (suc i) zero v w ne e d = let is : f x ≡ f w = ap f (some-injective x w d) in omega (arith, sum_one xs i v e, sum_by-cons f x xs)
    sum_two (x ∷ xs) (suc i) (suc j) v w ne e d = omega (arith, sum_two xs i j v w (λ is. ne (ap suc is)) e d, sum_by-cons f x xs)

    pub sum_none : (vs : List A) → ((j : ℕ) (w : A) → get_elem? vs j ≡ some w → f w ≡ 0) → sum_by f vs ≡ 0
    sum_none [] none = refl
    sum_none (x ∷ xs) none = omega (arith, none 0 x refl, sum_none xs (λ j w e. none (suc j) w e), sum_by-cons f x xs)

    -- where f is 0 of each other
    pub sum_alone : (vs : List A) (i : ℕ) (v : A) → get_elem? vs i ≡ some v → ((j : ℕ) (w : A) → j ≢ i → get_elem? vs j ≡ some w → f w ≡ 0) → sum_by f vs ≡ f v
    sum_alone [] i v e none = absurd (some-ne-none v (sym e))
    sum_alone (x ∷ xs) zero v e none = let is : f x ≡ f v = ap f (some-injective x v e) in omega (arith, sum_none xs (λ j w d. none (suc j) w (λ (z : suc j ≡ 0). omega arith) d), sum_by-cons f x xs)
    sum_alone (x ∷ xs) (suc i) v e none = omega (arith, none 0 x (λ (z : 0 ≡ suc i). omega arith) refl, sum_alone xs i v e (λ j w ne d. none (suc j) w (λ (z : suc j ≡ suc i). ne (omega arith)) d), sum_by-cons f x xs)
