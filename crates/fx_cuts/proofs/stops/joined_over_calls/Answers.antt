use Rattle.fx_cuts.proofs.JoinedSteps.{step_read, step_stage, step_system, step_flush, step_mark, step_failed_flush}
use Rattle.fx_cuts.proofs.stops.joined_over_calls.Goals as goal

pub returns-clause-read : goal.returns-clause-read
returns-clause-read g c = step_read g.W.ImageReader.means

pub returns-clause-stage : goal.returns-clause-stage
returns-clause-stage g c = step_stage g.W.ImageReader.means

pub returns-clause-system : goal.returns-clause-system
returns-clause-system g c = step_system g.W.ImageReader.means

pub returns-clause-flush : goal.returns-clause-flush
returns-clause-flush g c = step_flush g.W.ImageReader.means

pub returns-clause-mark : goal.returns-clause-mark
returns-clause-mark g c = step_mark g.W.ImageReader.means

pub returns-clause-failed_flush : goal.returns-clause-failed_flush
returns-clause-failed_flush g c = step_failed_flush g.W.ImageReader.means
