use Rattle.fx_plain.proofs.Children.{child_there, children_rise}
use Rattle.fx_plain.proofs.plain.children_laws.Goals as goal

pub returns-clause-there : goal.returns-clause-there
returns-clause-there c = child_there

pub returns-clause-rise : goal.returns-clause-rise
returns-clause-rise c = children_rise
