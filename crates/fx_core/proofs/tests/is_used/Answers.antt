use Rattle.std.proofs.Common.{Bool, Option, is_some, sym, ap, ◌∙◌}
use Rattle.fx_numbers.proofs.Trying.{used_part}
use Rattle.fx_core.proofs.tests.is_used.Goals as goal

pub returns : goal.returns
returns c = λ t. used_part c.args.core.now.numbers.parts c.args.who (ap (λ (o : Option Bool). is_some o) (sym c.reserved.ensures) ∙ sym c.is_some.ensures ∙ t)
