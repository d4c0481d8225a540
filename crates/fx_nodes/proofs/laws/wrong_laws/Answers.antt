use Rattle.fx_nodes.proofs.NothingWrong.{nothing_wrong, stands}
use Rattle.fx_nodes.proofs.laws.wrong_laws.Goals as goal

pub returns-clause-stands : goal.returns-clause-stands
returns-clause-stands c = λ m keys listed are right. stands m are keys listed right

pub returns-clause-right : goal.returns-clause-right
returns-clause-right c = λ m node s. nothing_wrong m s node
