-- What the tests of an answer of a comparison tell.
use Rattle.std.proofs.Common.{◌≡◌, ◌⊎◌, inl, inr, refl, ap, ◌∙◌, sym, true, false}
use Rattle.std.specs.Prelude.{IsTrue}
use Rattle.std.specs.Ordering.{is_eq, is_gt, is_le, is_lt, ordering_reverse, ordering_then}
use Rattle.std.specs.declared.cmp.Ordering.{Ordering}
use Rattle.std.specs.declared.cmp.Ordering.TheVariants.{Less, Equal, Greater}

-- ---- by the test

pub le_parts : (r : Ordering) → IsTrue (is_le r) → (r ≡ Less) ⊎ (r ≡ Equal)
le_parts Less h = inl refl
le_parts Equal h = inr refl
le_parts Greater h = absurd (cc h)

pub less_from : (r : Ordering) → is_lt r ≡ true → r ≡ Less
less_from Less e = refl
less_from Equal e = cc
less_from Greater e = cc

pub equal_from : (r : Ordering) → is_eq r ≡ true → r ≡ Equal
equal_from Less e = cc
equal_from Equal e = refl
equal_from Greater e = cc

pub up_to_from : (r : Ordering) → is_gt r ≡ false → is_le r ≡ true
up_to_from Less e = refl
up_to_from Equal e = refl
up_to_from Greater e = absurd (cc e)

pub not_up_to_from : (r : Ordering) → is_gt r ≡ true → is_le r ≡ false
not_up_to_from Less e = absurd (cc e)
not_up_to_from Equal e = absurd (cc e)
not_up_to_from Greater e = refl

-- ---- the other way round

pub by_reverse : (r s : Ordering) → s ≡ ordering_reverse r → (s ≡ Less) ⊎ IsTrue (is_le r)
by_reverse Less s e = inr refl
by_reverse Equal s e = inr refl
by_reverse Greater s e = inl e

pub not_less_reverse : (r s : Ordering) → s ≡ ordering_reverse r → is_lt r ≡ false → is_le s ≡ true
not_less_reverse Less s back e = absurd (cc e)
not_less_reverse Equal s back e = ap is_le back
not_less_reverse Greater s back e = ap is_le back

-- ---- one order after another

-- what ties by two orders ties by each
pub then_parts : (a b : Ordering) → ordering_then a b ≡ Equal → (a ≡ Equal) × (b ≡ Equal)
then_parts Less b e = absurd (cc)
then_parts Equal b e = (refl, e)
then_parts Greater b e = absurd (cc)

pub then_up_to : (r p q : Ordering) → (p ≡ Less → IsTrue (is_le q)) → ordering_then r p ≡ Less → IsTrue (is_le (ordering_then r q))
then_up_to Less p q k e = refl
then_up_to Equal p q k e = k e
then_up_to Greater p q k e = absurd (cc e)

-- ---- no two at once

pub less_not_equal : (r : Ordering) → r ≡ Less → r ≡ Equal → ⊥
less_not_equal r e f = cc (sym e ∙ f)

pub greater_not_equal : (r : Ordering) → r ≡ Greater → r ≡ Equal → ⊥
greater_not_equal r e f = cc (sym e ∙ f)
