use Rattle.fx_cuts.proofs.JoinedSteps.{step_aside, step_laid, step_layers_flushed, step_finish, step_anew, step_pin_ended}
use Rattle.fx_cuts.proofs.stops.joined_over_checkpoint.Goals as goal

pub returns-clause-aside : goal.returns-clause-aside
returns-clause-aside g c = step_aside g.W.ImageReader.means

pub returns-clause-laid : goal.returns-clause-laid
returns-clause-laid g c = step_laid g.W.ImageReader.means

pub returns-clause-flushed : goal.returns-clause-flushed
returns-clause-flushed g c = step_layers_flushed g.W.ImageReader.means

pub returns-clause-finish : goal.returns-clause-finish
returns-clause-finish g c = step_finish g.W.ImageReader.means

pub returns-clause-anew : goal.returns-clause-anew
returns-clause-anew g c = step_anew g.W.ImageReader.means

pub returns-clause-pin_ended : goal.returns-clause-pin_ended
returns-clause-pin_ended g c = step_pin_ended g.W.ImageReader.means
