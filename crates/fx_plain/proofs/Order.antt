-- The order of lists whose elements are in an order that tells any two apart.
use Rattle.std.proofs.Common.{◌≡◌, ◌⊎◌, inl, inr, ℕ, ◌<◌, ◌++◌, List, [], ◌∷◌, refl, sym, ap, subst, ◌∙◌, arith}
use Rattle.std.specs.Prelude.{IsTrue}
use Rattle.std.specs.Cmp.{IsTotalOrder, nat_cmp_total, tied_itself, ranked}
use Rattle.std.specs.Cmp.Lexicographic.{slice_cmp}
use Rattle.std.specs.FinMap.{IsAntisymmetric}
use Rattle.std.specs.Ordering.{is_le, nat_cmp, ordering_reverse, ordering_then}
use Rattle.std.specs.declared.cmp.Ordering.{Ordering}
use Rattle.std.specs.declared.cmp.Ordering.TheVariants.{Less, Equal, Greater}

le_parts : (r : Ordering) → IsTrue (is_le r) → (r ≡ Less) ⊎ (r ≡ Equal)
le_parts Less h = inl refl
le_parts Equal h = inr refl
le_parts Greater h = absurd (cc h)

by_reverse : (r s : Ordering) → s ≡ ordering_reverse r → (s ≡ Less) ⊎ IsTrue (is_le r)
by_reverse Less s e = inr refl
by_reverse Equal s e = inr refl
by_reverse Greater s e = inl e

-- one order that is total and tells any two apart
module _ {K : Type 0} {R : K → K → Ordering} (o : IsTotalOrder R) (exact : IsAntisymmetric R) where
  -- the first is not above the second
  abbrev pub IsUpTo : K → K → Type 0
  IsUpTo x y = IsTrue (is_le (R x y))

  pub less_up_to : (x y z : K) → R x y ≡ Less → IsUpTo y z → R x z ≡ Less
  less_up_to x y z l h = elim (le_parts (R y z) h) [
    | inl a ↦ o.trans x y z l a
    | inr a ↦ ap (R x) (sym (exact y z a)) ∙ l
  ]

  pub up_to_less : (x y z : K) → IsUpTo x y → R y z ≡ Less → R x z ≡ Less
  up_to_less x y z h l = elim (le_parts (R x y) h) [
    | inl a ↦ o.trans x y z a l
    | inr a ↦ ap (λ v. R v z) (exact x y a) ∙ l
  ]

  pub up_to : (x y : K) → R x y ≡ Less → IsUpTo x y
  up_to x y e = ap is_le e

  -- one is below the other, or the other up to it
  pub below_or_up_to : (x y : K) → (R y x ≡ Less) ⊎ IsUpTo x y
  below_or_up_to x y = by_reverse (R x y) (R y x) (o.antisymm y x)

  pub not_below_itself : (x : K) → R x x ≡ Less → ⊥
  not_below_itself x e = absurd (cc (sym e ∙ tied_itself o x))

  -- what is up to another that is up to it is the same
  pub up_to_both : (x y : K) → IsUpTo x y → IsUpTo y x → x ≡ y
  up_to_both x y h k = elim (le_parts (R x y) h) [
    | inl a ↦ absurd (not_below_itself x (less_up_to x y x a k))
    | inr a ↦ exact x y a
  ]

  -- ---- lists

  pub same_front : (p a b : List K) → slice_cmp R (p ++ a) (p ++ b) ≡ slice_cmp R a b
  same_front [] a b = refl
  same_front (x ∷ p) a b = ap (λ r. ordering_then r (slice_cmp R (p ++ a) (p ++ b))) (tied_itself o x) ∙ same_front p a b

  -- what lies between two lists with one front has that front
  pub between : (p a b r : List K) → IsTrue (is_le (slice_cmp R (p ++ a) r)) → IsTrue (is_le (slice_cmp R r (p ++ b))) → (c : List K) × (r ≡ p ++ c)
  between [] a b r low high = (r, refl)
  between (x ∷ p) a b [] low high = absurd (cc low)
  between (x ∷ p) a b (y ∷ r) low high = by_first (between p a b r) (R x y) (R y x) refl (o.antisymm y x) low high
    where
      by_first : (IsTrue (is_le (slice_cmp R (p ++ a) r)) → IsTrue (is_le (slice_cmp R r (p ++ b))) → (c : List K) × (r ≡ p ++ c)) → (s t : Ordering) → R x y ≡ s → t ≡ ordering_reverse (R x y) → IsTrue (is_le (ordering_then s (slice_cmp R (p ++ a) r))) → IsTrue (is_le (ordering_then t (slice_cmp R r (p ++ b)))) → (c : List K) × (y ∷ r ≡ x ∷ (p ++ c))
      by_first inner Less t is back l h = absurd (cc (subst (λ z. IsTrue (is_le (ordering_then z (slice_cmp R r (p ++ b))))) (back ∙ ap ordering_reverse is) h))
      by_first inner Equal t is back l h =
          let i = inner l (subst (λ z. IsTrue (is_le (ordering_then z (slice_cmp R r (p ++ b))))) (back ∙ ap ordering_reverse is) h) in
          (i.0, ap (λ z. z ∷ r) (sym (exact x y is)) ∙ ap (λ z. x ∷ z) i.1)
      by_first inner Greater t is back l h = absurd (cc l)

-- ---- lists of numbers

-- the list just above a list
pub above_itself : (n : List ℕ) → slice_cmp nat_cmp n (n ++ 0 ∷ []) ≡ Less
above_itself [] = refl
above_itself (x ∷ n) = ap (λ r. ordering_then r (slice_cmp nat_cmp n (n ++ 0 ∷ []))) (tied_itself nat_cmp_total x) ∙ above_itself n

zero_first : (a : ℕ) (r : Ordering) → nat_cmp 0 a ≡ r → (s : Ordering) → IsTrue (is_le s) → IsTrue (is_le (ordering_then r s))
zero_first a Less e s h = refl
zero_first a Equal e s h = h
zero_first a Greater e s h = let low : a < 0 = ranked 0 a Greater (sym e) in absurd (omega arith)

then_less : (r p q : Ordering) → (p ≡ Less → IsTrue (is_le q)) → ordering_then r p ≡ Less → IsTrue (is_le (ordering_then r q))
then_less Less p q k e = refl
then_less Equal p q k e = k e
then_less Greater p q k e = absurd (cc e)

nil_first : (x : List ℕ) → IsTrue (is_le (slice_cmp nat_cmp [] x))
nil_first [] = refl
nil_first (a ∷ x) = refl

-- what is above a list is not below the one just above it
pub next_up_to : (n x : List ℕ) → slice_cmp nat_cmp n x ≡ Less → IsTrue (is_le (slice_cmp nat_cmp (n ++ 0 ∷ []) x))
next_up_to [] [] e = absurd (cc e)
next_up_to [] (a ∷ x) e = zero_first a (nat_cmp 0 a) refl (slice_cmp nat_cmp [] x) (nil_first x)
next_up_to (b ∷ n) [] e = absurd (cc e)
next_up_to (b ∷ n) (a ∷ x) e = then_less (nat_cmp b a) (slice_cmp nat_cmp n x) (slice_cmp nat_cmp (n ++ 0 ∷ []) x) (next_up_to n x) e
