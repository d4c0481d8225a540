-- Numbers and truth values.
use Rattle.std.proofs.Common.{◌≡◌, ◌≢◌, ◌⊎◌, inl, inr, ℕ, refl, sym, ◌∙◌, Bool, true, false, not, eqb, eqb-true}
use Rattle.std.proofs.lemmas.Bool.{eqb-false}

-- two numbers are one or two
pub same_or_not : (a b : ℕ) → (a ≡ b) ⊎ (a ≢ b)
same_or_not a b = by_test (eqb a b) refl
  where
    by_test : (t : Bool) → eqb a b ≡ t → (a ≡ b) ⊎ (a ≢ b)
    by_test true e = inl (eqb-true a b e)
    by_test false e = inr (eqb-false a b e)

-- what holds where two numbers are one and where they are two, holds
pub by_number : (a b : ℕ) (P : Type 0) → (a ≡ b → P) → ((a ≡ b → ⊥) → P) → P
by_number a b P same apart = elim (same_or_not a b) [ inl e ↦ same e | inr e ↦ apart e ]

pub true_not_false : (b : Bool) → b ≡ true → b ≡ false → ⊥
true_not_false b e f = cc (sym e ∙ f)

pub false_from_not : (b : Bool) → not b ≡ true → b ≡ false
false_from_not true e = absurd (cc e)
false_from_not false e = refl

pub true_from_not : (b : Bool) → false ≡ not b → b ≡ true
true_from_not true e = refl
true_from_not false e = absurd (cc e)
