use Rattle.fx_contents.proofs.NamesAlone.{from_names, to_names, nothing_stands, nothing_clear}
use Rattle.fx_contents.proofs.OneTree.{one_tree_of, tree_of, not_waiting, waiting_leaf}
use Rattle.fx_contents.proofs.standing_laws.Goals as goal

pub returns-clause-one : goal.returns-clause-one
returns-clause-one c = one_tree_of

pub returns-clause-is_tree : goal.returns-clause-is_tree
returns-clause-is_tree c = tree_of

pub returns-clause-empty : goal.returns-clause-empty
returns-clause-empty c = λ f. (nothing_stands f, nothing_clear f)

pub returns-clause-names : goal.returns-clause-names
returns-clause-names c = λ items f t names. (to_names items names f t, λ p. from_names items names f t p.0 p.1)

pub returns-clause-buried : goal.returns-clause-buried
returns-clause-buried c = not_waiting

pub returns-clause-leaf : goal.returns-clause-leaf
returns-clause-leaf c = waiting_leaf
