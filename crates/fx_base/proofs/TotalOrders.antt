-- A total order that tells any two apart, and the lists over it in the order of their elements.
use Rattle.std.proofs.Common.{◌≡◌, ◌≢◌, ◌⊎◌, inl, inr, ℕ, ◌<◌, ◌++◌, List, [], ◌∷◌, refl, sym, ap, subst, ◌∙◌, arith, Bool, true, false}
use Rattle.std.specs.Prelude.{IsTrue}
use Rattle.std.specs.Cmp.{IsTotalOrder, nat_cmp_total, tied_itself, ranked}
use Rattle.std.specs.Cmp.Lexicographic.{slice_cmp}
use Rattle.std.specs.FinMap.{IsAntisymmetric}
use Rattle.std.specs.Ordering.{is_eq, is_le, is_lt, nat_cmp, ordering_reverse, ordering_then}
use Rattle.std.specs.declared.cmp.Ordering.{Ordering}
use Rattle.std.specs.declared.cmp.Ordering.TheVariants.{Less, Equal, Greater}
use Rattle.fx_base.proofs.Orderings.{le_parts, equal_from, by_reverse, then_up_to}

module _ {K : Type 0} {R : K → K → Ordering} (o : IsTotalOrder R) (exact : IsAntisymmetric R) where
  -- the first is not above the second
  abbrev pub IsUpTo : K → K → Type 0
  IsUpTo x y = IsTrue (is_le (R x y))

  pub less_up_to : (x y z : K) → R x y ≡ Less → IsUpTo y z → R x z ≡ Less
  less_up_to x y z l h = elim (le_parts (R y z) h) [
    | inl a ↦ o.trans x y z l a
    | inr a ↦ ap (R x) (sym (exact y z a)) ∙ l
  ]

  pub up_to_less : (x y z : K) → IsUpTo x y → R y z ≡ Less → R x z ≡ Less
  up_to_less x y z h l = elim (le_parts (R x y) h) [
    | inl a ↦ o.trans x y z a l
    | inr a ↦ ap (λ v. R v z) (exact x y a) ∙ l
  ]

  pub up_to : (x y : K) → R x y ≡ Less → IsUpTo x y
  up_to x y e = ap is_le e

  pub up_to_itself : (x : K) → IsUpTo x x
  up_to_itself x = ap is_le (tied_itself o x)

  pub up_to_cases : (x y : K) → IsUpTo x y → (R x y ≡ Less) ⊎ (x ≡ y)
  up_to_cases x y h = elim (le_parts (R x y) h) [ inl e ↦ inl e | inr e ↦ inr (exact x y e) ]

  pub up_to_trans : (x y z : K) → IsUpTo x y → IsUpTo y z → IsUpTo x z
  up_to_trans x y z h k = elim (up_to_cases y z k) [
    | inl e ↦ up_to x z (up_to_less x y z h e)
    | inr e ↦ subst (IsUpTo x) e h
  ]

  -- one is below the other, or the other up to it
  pub below_or_up_to : (x y : K) → (R y x ≡ Less) ⊎ IsUpTo x y
  below_or_up_to x y = by_reverse (R x y) (R y x) (o.antisymm y x)

  pub not_below_itself : (x : K) → R x x ≡ Less → ⊥
  not_below_itself x e = absurd (cc (sym e ∙ tied_itself o x))

  -- what is up to another that is up to it is the same
  pub up_to_both : (x y : K) → IsUpTo x y → IsUpTo y x → x ≡ y
  up_to_both x y h k = elim (le_parts (R x y) h) [
    | inl a ↦ absurd (not_below_itself x (less_up_to x y x a k))
    | inr a ↦ exact x y a
  ]

  -- ---- by the tests

  pub not_up_to : (x y : K) → R y x ≡ Less → is_le (R x y) ≡ false
  not_up_to x y l = by_test (is_le (R x y)) refl
    where
      by_test : (b : Bool) → is_le (R x y) ≡ b → is_le (R x y) ≡ false
      by_test true e = absurd (not_below_itself x (up_to_less x y x e l))
      by_test false e = e

  pub below_from_test : (x y : K) → is_le (R x y) ≡ false → R y x ≡ Less
  below_from_test x y e = elim (below_or_up_to x y) [ inl a ↦ a | inr a ↦ absurd (cc (sym e ∙ a)) ]

  -- what is up to another and not below it is it
  pub same_from_test : (x y : K) → IsUpTo x y → is_lt (R x y) ≡ false → x ≡ y
  same_from_test x y h l = elim (up_to_cases x y h) [ inl e ↦ absurd (cc (sym (ap is_lt e) ∙ l)) | inr e ↦ e ]

  pub tie_same : (x y : K) → is_eq (R x y) ≡ true → x ≡ y
  tie_same x y e = exact x y (equal_from (R x y) e)

  pub same_tie : (x y : K) → x ≡ y → is_eq (R x y) ≡ true
  same_tie x y e = subst (λ z. is_eq (R x z) ≡ true) e (ap is_eq (tied_itself o x))

  pub apart_no_tie : (x y : K) → x ≢ y → is_eq (R x y) ≡ false
  apart_no_tie x y ne = by_test (is_eq (R x y)) refl
    where
      by_test : (b : Bool) → is_eq (R x y) ≡ b → is_eq (R x y) ≡ false
      by_test true e = absurd (ne (tie_same x y e))
      by_test false e = e

  -- one or the other, with what the test tells
  pub same_or_apart : (x y : K) → ((x ≡ y) × (is_eq (R x y) ≡ true)) ⊎ ((x ≢ y) × (is_eq (R x y) ≡ false))
  same_or_apart x y = by_test (is_eq (R x y)) refl
    where
      by_test : (t : Bool) → is_eq (R x y) ≡ t → ((x ≡ y) × (is_eq (R x y) ≡ true)) ⊎ ((x ≢ y) × (is_eq (R x y) ≡ false))
      by_test true e = inl (tie_same x y e, e)
      by_test false e = inr (λ s. absurd (cc (sym e ∙ same_tie x y s)), e)

  -- ---- lists

  pub same_front : (p a b : List K) → slice_cmp R (p ++ a) (p ++ b) ≡ slice_cmp R a b
  same_front [] a b = refl
  same_front (x ∷ p) a b = ap (λ r. ordering_then r (slice_cmp R (p ++ a) (p ++ b))) (tied_itself o x) ∙ same_front p a b

  -- what lies between two lists with one front has that front
  pub between : (p a b r : List K) → IsTrue (is_le (slice_cmp R (p ++ a) r)) → IsTrue (is_le (slice_cmp R r (p ++ b))) → (c : List K) × (r ≡ p ++ c)
  between [] a b r low high = (r, refl)
  between (x ∷ p) a b [] low high = absurd (cc low)
  between (x ∷ p) a b (y ∷ r) low high = by_first (between p a b r) (R x y) (R y x) refl (o.antisymm y x) low high
    where
      by_first : (IsTrue (is_le (slice_cmp R (p ++ a) r)) → IsTrue (is_le (slice_cmp R r (p ++ b))) → (c : List K) × (r ≡ p ++ c)) → (s t : Ordering) → R x y ≡ s → t ≡ ordering_reverse (R x y) → IsTrue (is_le (ordering_then s (slice_cmp R (p ++ a) r))) → IsTrue (is_le (ordering_then t (slice_cmp R r (p ++ b)))) → (c : List K) × (y ∷ r ≡ x ∷ (p ++ c))
      by_first inner Less t is back l h = absurd (cc (subst (λ z. IsTrue (is_le (ordering_then z (slice_cmp R r (p ++ b))))) (back ∙ ap ordering_reverse is) h))
      by_first inner Equal t is back l h =
          let i = inner l (subst (λ z. IsTrue (is_le (ordering_then z (slice_cmp R r (p ++ b))))) (back ∙ ap ordering_reverse is) h) in
          (i.0, ap (λ z. z ∷ r) (sym (exact x y is)) ∙ ap (λ z. x ∷ z) i.1)
      by_first inner Greater t is back l h = absurd (cc l)

-- ---- lists of numbers, as names are

-- the list just above a list
pub above_itself : (n : List ℕ) → slice_cmp nat_cmp n (n ++ 0 ∷ []) ≡ Less
above_itself [] = refl
above_itself (x ∷ n) = ap (λ r. ordering_then r (slice_cmp nat_cmp n (n ++ 0 ∷ []))) (tied_itself nat_cmp_total x) ∙ above_itself n

zero_first : (a : ℕ) (r : Ordering) → nat_cmp 0 a ≡ r → (s : Ordering) → IsTrue (is_le s) → IsTrue (is_le (ordering_then r s))
zero_first a Less e s h = refl
zero_first a Equal e s h = h
zero_first a Greater e s h = let low : a < 0 = ranked 0 a Greater (sym e) in absurd (omega arith)

nil_first : (x : List ℕ) → IsTrue (is_le (slice_cmp nat_cmp [] x))
nil_first [] = refl
nil_first (a ∷ x) = refl

-- what is above a list is not below the one just above it
pub next_up_to : (n x : List ℕ) → slice_cmp nat_cmp n x ≡ Less → IsTrue (is_le (slice_cmp nat_cmp (n ++ 0 ∷ []) x))
next_up_to [] [] e = absurd (cc e)
next_up_to [] (a ∷ x) e = zero_first a (nat_cmp 0 a) refl (slice_cmp nat_cmp [] x) (nil_first x)
next_up_to (b ∷ n) [] e = absurd (cc e)
next_up_to (b ∷ n) (a ∷ x) e = then_up_to (nat_cmp b a) (slice_cmp nat_cmp n x) (slice_cmp nat_cmp (n ++ 0 ∷ []) x) (next_up_to n x) e

none_below_zero : (a : ℕ) (x : List ℕ) → slice_cmp nat_cmp (a ∷ x) (0 ∷ []) ≡ Less → ⊥
none_below_zero a x e = by_first (nat_cmp a 0) refl (slice_cmp nat_cmp x []) (no_less x) e
  where
    no_less : (y : List ℕ) → slice_cmp nat_cmp y [] ≡ Less → ⊥
    no_less [] d = cc d
    no_less (b ∷ y) d = cc d

    by_first : (r : Ordering) → r ≡ nat_cmp a 0 → (s : Ordering) → (s ≡ Less → ⊥) → ordering_then r s ≡ Less → ⊥
    by_first Less is s not_less d = let low : a < 0 = ranked a 0 Less is in omega arith
    by_first Equal is s not_less d = not_less d
    by_first Greater is s not_less d = cc d

-- what is below the list just above a list is up to that list
pub up_to_from_next : (x n : List ℕ) → slice_cmp nat_cmp x (n ++ 0 ∷ []) ≡ Less → IsTrue (is_le (slice_cmp nat_cmp x n))
up_to_from_next [] [] e = refl
up_to_from_next [] (b ∷ n) e = refl
up_to_from_next (a ∷ x) [] e = absurd (none_below_zero a x e)
up_to_from_next (a ∷ x) (b ∷ n) e = then_up_to (nat_cmp a b) (slice_cmp nat_cmp x (n ++ 0 ∷ [])) (slice_cmp nat_cmp x n) (up_to_from_next x n) e
