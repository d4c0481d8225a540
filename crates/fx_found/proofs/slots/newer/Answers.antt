use Rattle.std.proofs.Common.{sym, ◌∙◌, ap}
use Rattle.std.specs.Prelude.{Some}
use Rattle.fx_found.proofs.Supers.{first-newer, second-newer}
use Rattle.fx_found.proofs.slots.newer.Goals as goal

pub returns-in-Some-A : goal.returns-in-Some-A
returns-in-Some-A c image s = first-newer image c.args.first c.args.second s (sym c.choose.ensures ∙ c.in-Some-A.is ∙ ap Some c.in-Some-A.field-0-is)

pub returns-in-Some-B : goal.returns-in-Some-B
returns-in-Some-B c image s = second-newer image c.args.first c.args.second s (sym c.choose.ensures ∙ c.in-Some-B.is ∙ ap Some c.in-Some-B.field-0-is)
