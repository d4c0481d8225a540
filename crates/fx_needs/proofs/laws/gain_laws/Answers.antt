use Rattle.fx_needs.proofs.Gains.{line_gains, step_gains}
use Rattle.fx_needs.proofs.laws.gain_laws.Goals as goal

pub returns-clause-step : goal.returns-clause-step
returns-clause-step c = step_gains c.step_laws.ensures.refused c.size_laws.ensures.grows

pub returns-clause-line : goal.returns-clause-line
returns-clause-line c = line_gains c.step_laws.ensures.refused c.size_laws.ensures.grows
