use Rattle.std.proofs.Common.{◌∙◌, sym}
use Rattle.fx_script.proofs.RuleTests.{names_tested, tested_names}
use Rattle.fx_script.proofs.sayable.is_path.Goals as goal

pub returns : goal.returns
returns c = (
  λ tested. record { few = c.if-path-gt-MAX_NAMES.false; names = names_tested c.args.path.now (sym c.are_names.ensures ∙ tested) },
  λ path. c.are_names.ensures ∙ tested_names c.args.path.now path.names,
)
