use Rattle.fx_item.specs.Overlay.{live_in}
use Rattle.fx_contents.specs.Standing.{holdings_of}
use Rattle.fx_node.proofs.Directories.{children_of_look, tree_of_look}
use Rattle.fx_node.proofs.laws.directory_laws.Goals as goal

pub returns-clause-walks : goal.returns-clause-walks
returns-clause-walks c = λ said f t s. (holdings_of (live_in said) f s.attributes, tree_of_look said s)

pub returns-clause-names : goal.returns-clause-names
returns-clause-names c = λ said f t path node names s way are. children_of_look said s path node way names are
