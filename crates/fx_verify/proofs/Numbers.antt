-- Numbers that are told apart, and choices by them.
use Rattle.std.proofs.Common.{◌≡◌, ℕ, ◌==◌, ◌||◌, Bool, true, false, cond, refl, arith}
use Rattle.std.specs.Ordering.{is_eq, nat_cmp}

pub is_eq_nat : (a b : ℕ) → is_eq (nat_cmp a b) ≡ (a == b)
is_eq_nat a b = grind (arith)

pub either : (a b : Bool) → cond b true a ≡ (a || b)
either true true = refl
either true false = refl
either false true = refl
either false false = refl
