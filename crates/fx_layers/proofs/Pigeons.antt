-- Lists in which no element comes twice.
use Rattle.std.proofs.Common.{◌≡◌, ◌⊎◌, inl, inr, ℕ, zero, suc, ◌+◌, ◌<◌, ◌≤◌, List, [], ◌∷◌, ◌++◌, length, refl, sym, subst, ◌∙◌, ap, arith}
use Rattle.std.proofs.lemmas.Bool.{cases_lt}
use Rattle.fx_nodes.specs.Lists.{IsIn}

abbrev pub AreDifferent : {X : Type 0} → List X → Type 0
AreDifferent [] = Unit {0}
AreDifferent (x ∷ xs) = (IsIn xs x → ⊥) × AreDifferent xs

pub in_front : {X : Type 0} (xs ys : List X) (x : X) → IsIn xs x → IsIn (xs ++ ys) x
in_front [] ys x h = absurd h
in_front (y ∷ xs) ys x (inl e) = inl e
in_front (y ∷ xs) ys x (inr h) = inr (in_front xs ys x h)

pub in_back : {X : Type 0} (xs ys : List X) (x : X) → IsIn ys x → IsIn (xs ++ ys) x
in_back [] ys x h = h
in_back (y ∷ xs) ys x h = inr (in_back xs ys x h)

pub in_either : {X : Type 0} (xs ys : List X) (x : X) → IsIn (xs ++ ys) x → IsIn xs x ⊎ IsIn ys x
in_either [] ys x h = inr h
in_either (y ∷ xs) ys x (inl e) = inl (inl e)
in_either (y ∷ xs) ys x (inr h) = elim (in_either xs ys x h) [ inl a ↦ inl (inr a) | inr b ↦ inr b ]

pub different_append : {X : Type 0} (xs ys : List X) → AreDifferent xs → AreDifferent ys → ((x : X) → IsIn xs x → IsIn ys x → ⊥) → AreDifferent (xs ++ ys)
different_append [] ys dx dy apart = dy
different_append (x ∷ xs) ys dx dy apart = (
  λ h. elim (in_either xs ys x h) [ inl a ↦ dx.0 a | inr b ↦ apart x (inl refl) b ],
  different_append xs ys dx.1 dy (λ y a b. apart y (inr a) b),
)

-- a list without one of its elements
record Without {X : Type 0} (ys : List X) (x : X) : Type 0 where
  rest : List X
  fewer : length ys ≡ suc (length rest)
  others : (y : X) → (y ≡ x → ⊥) → IsIn ys y → IsIn rest y

without : {X : Type 0} (ys : List X) (x : X) → IsIn ys x → Without ys x
without [] x h = absurd h
without (y ∷ ys) x (inl e) = record {
  rest = ys;
  fewer = refl;
  others = λ z ne h. elim h [ inl f ↦ absurd (ne (sym f ∙ e)) | inr k ↦ k ];
}
without (y ∷ ys) x (inr h) =
    let w = without ys x h in
    record {
      rest = y ∷ w.rest;
      fewer = ap suc w.fewer;
      others = λ z ne k. elim k [ inl f ↦ inl f | inr j ↦ inr (w.others z ne j) ];
    }

-- different elements, each of which the other list has, are no more than it has
pub no_more : {X : Type 0} (xs ys : List X) → AreDifferent xs → ((x : X) → IsIn xs x → IsIn ys x) → length xs ≤ length ys
no_more [] ys d there = omega arith
no_more {X} (x ∷ xs) ys d there =
    let w = without ys x (there x (inl refl)) in
    let rest = no_more xs w.rest d.1 (λ y h. w.others y (λ e. d.0 (moved y e h)) (there y (inr h))) in
    omega (arith, rest, w.fewer)
  where
    moved : (y : X) → y ≡ x → IsIn xs y → IsIn xs x
    moved y e h = subst (IsIn xs) e h

-- ---- neighbouring numbers

abbrev pub numbers_from : ℕ → ℕ → List ℕ
numbers_from a zero = []
numbers_from a (suc n) = a ∷ numbers_from (suc a) n

pub numbers_length : (a n : ℕ) → length (numbers_from a n) ≡ n
numbers_length a zero = refl
numbers_length a (suc n) = ap suc (numbers_length (suc a) n)

pub numbers_within : (a n x : ℕ) → IsIn (numbers_from a n) x → (a ≤ x) × (x < a + n)
numbers_within a zero x h = absurd h
numbers_within a (suc n) x (inl e) = (omega (arith, e), omega (arith, e))
numbers_within a (suc n) x (inr h) = let w = numbers_within (suc a) n x h in (omega (arith, w.0), omega (arith, w.1))

pub numbers_have : (a n x : ℕ) → a ≤ x → x < a + n → IsIn (numbers_from a n) x
numbers_have a zero x l h = absurd (omega (arith, l, h))
numbers_have a (suc n) x l h = elim (cases_lt a x) [
  | inl more ↦ inr (numbers_have (suc a) n x (omega (arith, more)) (omega (arith, h)))
  | inr le ↦ inl (omega (arith, l, le))
]

pub numbers_different : (a n : ℕ) → AreDifferent (numbers_from a n)
numbers_different a zero = tt
numbers_different a (suc n) = (λ h. let w = numbers_within (suc a) n a h in absurd (omega (arith, w.0)), numbers_different (suc a) n)
