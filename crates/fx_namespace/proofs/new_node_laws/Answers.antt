use Rattle.fx_namespace.proofs.Commits.{new_are_items, new_ascends, new_leads, new_place, new_stands, new_tree}
use Rattle.fx_namespace.proofs.new_node_laws.Goals as goal

pub returns-clause-stands : goal.returns-clause-stands
returns-clause-stands c = λ m h t above parent name node kind id store s is b place next. new_stands s is b place next

pub returns-clause-tree : goal.returns-clause-tree
returns-clause-tree c = λ m h t above parent name node kind id store s is b place next. new_tree s is b place next

pub returns-clause-ways : goal.returns-clause-ways
returns-clause-ways c = λ m h t above parent name node kind id store s is b place next. new_leads s is b place next

pub returns-clause-place : goal.returns-clause-place
returns-clause-place c = λ m h t above parent name node kind id store s is b place next. new_place s is b place next

pub returns-clause-ascending : goal.returns-clause-ascending
returns-clause-ascending c = new_ascends

pub returns-clause-items : goal.returns-clause-items
returns-clause-items c = new_are_items
