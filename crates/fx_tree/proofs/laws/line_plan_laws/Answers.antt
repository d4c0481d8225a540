use Rattle.fx_tree.proofs.Lines.{line_does}
use Rattle.fx_tree.proofs.LinesOver.{line_over, line_promises}
use Rattle.fx_tree.proofs.Numbers.{plan_below}
use Rattle.fx_tree.proofs.laws.line_plan_laws.Goals as goal

pub returns-clause-below : goal.returns-clause-below
returns-clause-below c = plan_below

pub returns-clause-line : goal.returns-clause-line
returns-clause-line c = line_does

pub returns-clause-over : goal.returns-clause-over
returns-clause-over c = line_over

pub returns-clause-promise : goal.returns-clause-promise
returns-clause-promise c = line_promises
