use Rattle.fx_cuts.proofs.MountedState.{state_mounted, trees_mounted}
use Rattle.fx_cuts.proofs.cuts.mounted_state.Goals as goal

pub returns-clause-state : goal.returns-clause-state
returns-clause-state g c s right base calls first others m = state_mounted g.W.ImageReader.means s right base first others m calls

pub returns-clause-trees : goal.returns-clause-trees
returns-clause-trees g c trees s right base first others image r m = trees_mounted g.W.ImageReader.means s right base first others m trees image r
