use Rattle.fx_namespace.proofs.Empty.{stands, tree}
use Rattle.fx_namespace.proofs.empty_laws.Goals as goal

pub returns-clause-stands : goal.returns-clause-stands
returns-clause-stands c = stands

pub returns-clause-tree : goal.returns-clause-tree
returns-clause-tree c = tree
