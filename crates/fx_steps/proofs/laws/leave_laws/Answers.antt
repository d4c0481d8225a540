use Rattle.fx_steps.proofs.Left.{all_leave, line_leaves}
use Rattle.fx_steps.proofs.laws.leave_laws.Goals as goal

pub returns-clause-step : goal.returns-clause-step
returns-clause-step c = all_leave

pub returns-clause-line : goal.returns-clause-line
returns-clause-line c = line_leaves
