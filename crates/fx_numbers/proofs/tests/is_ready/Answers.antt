use Rattle.std.proofs.Common.{◌≡◌, Some, true, sym, ap, ◌∙◌}
use Rattle.fx_numbers.proofs.Trying.{reserved_part}
use Rattle.fx_numbers.proofs.tests.is_ready.Goals as goal

pub returns-in-Some-true : goal.returns-in-Some-true
returns-in-Some-true c = λ t. reserved_part c.args.numbers.now.parts c.args.who true (sym c.reserved.ensures ∙ c.in-Some-true.is ∙ ap Some c.in-Some-true.field-0-test)
