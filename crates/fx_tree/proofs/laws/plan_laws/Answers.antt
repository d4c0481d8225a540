use Rattle.fx_tree.proofs.Over.{plan_over}
use Rattle.fx_tree.proofs.Steps.{plan_does, plan_promises}
use Rattle.fx_tree.proofs.laws.plan_laws.Goals as goal

pub returns-clause-done : goal.returns-clause-done
returns-clause-done c = plan_does

pub returns-clause-over : goal.returns-clause-over
returns-clause-over c = plan_over

pub returns-clause-promise : goal.returns-clause-promise
returns-clause-promise c = plan_promises
