use Rattle.fx_contents.proofs.NewNode.{gain_clear, gain_stands}
use Rattle.fx_contents.proofs.Graveyard.{trims_clear, trims_stands}
use Rattle.fx_contents.proofs.node_laws.Goals as goal

pub returns-clause-made : goal.returns-clause-made
returns-clause-made c = λ m n f t above parent name node kind s p r. gain_stands m n parent name node kind r s.within f t above s p

pub returns-clause-made_clear : goal.returns-clause-made_clear
returns-clause-made_clear c = λ m n f parent name node kind within clear r. gain_clear m n parent name node kind r within f clear

pub returns-clause-trimmed : goal.returns-clause-trimmed
returns-clause-trimmed c = λ m n f t node s r. trims_stands m n node r f t s

pub returns-clause-trimmed_clear : goal.returns-clause-trimmed_clear
returns-clause-trimmed_clear c = λ m n f node clear r. trims_clear m n node r f clear
