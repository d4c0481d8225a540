use Rattle.std.proofs.Common.{refl, arith, rules}
use Rattle.fx_script.proofs.RuleTests.{below_256}
use Rattle.fx_script.proofs.sayable.is_text.Goals as goal

pub returns : goal.returns
returns c = (
  λ _. record { some = search rules; bytes = below_256 c.args.text.now (λ i. omega (arith, c.type_inv.text i)) },
  λ _. refl,
)
