use Rattle.fx_namespace.proofs.Commits.{written_are_items, written_ascends, written_leads, written_stands, written_tree}
use Rattle.fx_namespace.proofs.written_laws.Goals as goal

pub returns-clause-stands : goal.returns-clause-stands
returns-clause-stands c = λ m h t path node s is f. written_stands is f s

pub returns-clause-tree : goal.returns-clause-tree
returns-clause-tree c = λ m h t path node is f. written_tree is f

pub returns-clause-ways : goal.returns-clause-ways
returns-clause-ways c = λ m h t path node is f. written_leads is f

pub returns-clause-ascending : goal.returns-clause-ascending
returns-clause-ascending c = written_ascends

pub returns-clause-items : goal.returns-clause-items
returns-clause-items c = written_are_items
