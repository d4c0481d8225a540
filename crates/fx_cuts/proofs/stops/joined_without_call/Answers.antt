use Rattle.fx_cuts.proofs.JoinedSteps.{step_draw, step_rollback}
use Rattle.fx_cuts.proofs.JoinedCommit.{over_commit}
use Rattle.fx_cuts.proofs.stops.joined_without_call.Goals as goal

pub returns-clause-draw : goal.returns-clause-draw
returns-clause-draw g c = step_draw g.W.ImageReader.means

pub returns-clause-rollback : goal.returns-clause-rollback
returns-clause-rollback g c = step_rollback g.W.ImageReader.means

pub returns-clause-commit : goal.returns-clause-commit
returns-clause-commit g c = over_commit g.W.ImageReader.means
