use Rattle.std.proofs.Common.{sym, ◌∙◌, ap}
use Rattle.std.specs.Prelude.{Some}
use Rattle.fx_mount.proofs.Finding.{first-newer, second-newer, first-chosen, second-chosen}
use Rattle.fx_mount.proofs.find.newer.Goals as goal

pub returns-in-Some-A-clause-chosen : goal.returns-in-Some-A-clause-chosen
returns-in-Some-A-clause-chosen c image s =
    first-newer image c.args.first c.args.second s (first-chosen c.args.first.generation c.args.second.generation (sym c.choose.ensures ∙ c.in-Some-A.is ∙ ap Some c.in-Some-A.field-0-is))

pub returns-in-Some-B-clause-chosen : goal.returns-in-Some-B-clause-chosen
returns-in-Some-B-clause-chosen c image s =
    second-newer image c.args.first c.args.second s (second-chosen c.args.first.generation c.args.second.generation (sym c.choose.ensures ∙ c.in-Some-B.is ∙ ap Some c.in-Some-B.field-0-is))
