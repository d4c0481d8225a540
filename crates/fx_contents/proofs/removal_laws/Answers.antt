use Rattle.fx_contents.proofs.RemovedNode.{buries, bury_clear, bury_stands}
use Rattle.fx_contents.proofs.removal_laws.Goals as goal

pub returns-clause-names : goal.returns-clause-names
returns-clause-names c = buries

pub returns-clause-removed : goal.returns-clause-removed
returns-clause-removed c = λ m n f t above parent name node s way leaf r. bury_stands m n parent name node r f t s leaf above way

pub returns-clause-removed_clear : goal.returns-clause-removed_clear
returns-clause-removed_clear c = λ m n f parent name node clear r. bury_clear m n parent name node r f clear
