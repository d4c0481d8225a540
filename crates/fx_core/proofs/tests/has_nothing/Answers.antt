use Rattle.std.proofs.Common.{Some, false, sym, ap, ◌∙◌}
use Rattle.fx_numbers.proofs.Trying.{nothing_some, reserved_part}
use Rattle.fx_core.proofs.tests.has_nothing.Goals as goal

pub returns-in-Some-false : goal.returns-in-Some-false
returns-in-Some-false c = λ t. let p = reserved_part c.args.core.now.numbers.parts c.args.who false (sym c.reserved.ensures ∙ c.in-Some-false.is ∙ ap Some c.in-Some-false.field-0-test) in (p.0, p.1, nothing_some p.0.reserved p.2)
