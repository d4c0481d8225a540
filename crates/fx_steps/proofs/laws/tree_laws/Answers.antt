use Rattle.fx_steps.proofs.Kept.{below_is_there, step_kept, step_looks, step_refused, steps_kept}
use Rattle.fx_steps.proofs.laws.tree_laws.Goals as goal

pub returns-clause-kept : goal.returns-clause-kept
returns-clause-kept c = step_kept

pub returns-clause-line : goal.returns-clause-line
returns-clause-line c = steps_kept

pub returns-clause-refused : goal.returns-clause-refused
returns-clause-refused c = step_refused c.step_laws.ensures.refused

pub returns-clause-look : goal.returns-clause-look
returns-clause-look c = step_looks c.step_laws.ensures.read

pub returns-clause-below : goal.returns-clause-below
returns-clause-below c = below_is_there
