use Rattle.fx_plain.proofs.Trees.{IsTree-do_step, IsTree-root}
use Rattle.fx_plain.proofs.plain.step_laws.Goals as goal

pub returns-clause-root : goal.returns-clause-root
returns-clause-root c = IsTree-root

pub returns-clause-kept : goal.returns-clause-kept
returns-clause-kept c = IsTree-do_step
