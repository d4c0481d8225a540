use Rattle.fx_layers.proofs.Sizes.{new_layers_fit, sizes_stand}
use Rattle.fx_layers.proofs.laws.standing_sizes_law.Goals as goal

pub returns-clause-sizes : goal.returns-clause-sizes
returns-clause-sizes c = sizes_stand

pub returns-clause-fit : goal.returns-clause-fit
returns-clause-fit c = new_layers_fit
