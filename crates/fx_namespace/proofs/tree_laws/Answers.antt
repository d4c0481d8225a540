use Rattle.fx_namespace.proofs.Trees.{is_tree, one_tree}
use Rattle.fx_namespace.proofs.Walks.{one_path}
use Rattle.fx_namespace.proofs.tree_laws.Goals as goal

pub returns-clause-one : goal.returns-clause-one
returns-clause-one c = one_tree

pub returns-clause-is_tree : goal.returns-clause-is_tree
returns-clause-is_tree c = is_tree

pub returns-clause-path : goal.returns-clause-path
returns-clause-path c = λ m a b node s. one_path m s a b node
