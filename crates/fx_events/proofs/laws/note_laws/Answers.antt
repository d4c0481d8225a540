use Rattle.std.proofs.Common.{[]}
use Rattle.fx_events.proofs.Entries.{follow_next, legal_history, tree_history}
use Rattle.fx_events.proofs.Further.{goes_on}
use Rattle.fx_events.proofs.laws.note_laws.Goals as goal

pub returns-clause-next : goal.returns-clause-next
returns-clause-next c = λ mounted notes note f next. follow_next mounted [] notes note f next

pub returns-clause-legal : goal.returns-clause-legal
returns-clause-legal c = legal_history

pub returns-clause-tree : goal.returns-clause-tree
returns-clause-tree c = tree_history

pub returns-clause-goes_on : goal.returns-clause-goes_on
returns-clause-goes_on c = goes_on
