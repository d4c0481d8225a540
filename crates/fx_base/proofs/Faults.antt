-- Counts of faults over calls in a row.
use Rattle.std.proofs.Common.{◌≡◌, ◌∙◌, refl, ℕ, ◌≤◌, Bool, true, false, arith}
use Rattle.fx_base.specs.Causes.{RoseUnless, CountsFault}

pub faults_same : (count : ℕ) → CountsFault true count count
faults_same count = record { answer = refl; grows = omega arith }

pub answer_then : (good : Bool) (a b c : ℕ) → b ≡ a → RoseUnless good b c → RoseUnless good a c
answer_then true a b c first last = last ∙ first
answer_then false a b c first last = omega (arith, first)

pub faults_then : (good : Bool) (a b c : ℕ) → CountsFault true a b → CountsFault good b c → CountsFault good a c
faults_then good a b c first last = record {
  answer = answer_then good a b c first.answer last.answer;
  grows = omega (arith, first.grows, last.grows);
}
