use Rattle.fx_layers.proofs.Trees.{objects_lie, allocs_lie}
use Rattle.fx_layers.proofs.laws.layer_trees_law.Goals as goal

pub returns-clause-objects : goal.returns-clause-objects
returns-clause-objects c = objects_lie

pub returns-clause-allocs : goal.returns-clause-allocs
returns-clause-allocs c = allocs_lie
