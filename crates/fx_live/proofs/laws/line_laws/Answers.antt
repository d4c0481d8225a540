use Rattle.fx_live.proofs.LineOrder.{line_ordered}
use Rattle.fx_live.proofs.Swapped.{says_one}
use Rattle.fx_live.proofs.laws.line_laws.Goals as goal

pub returns-clause-one : goal.returns-clause-one
returns-clause-one c = says_one

pub returns-clause-ordered : goal.returns-clause-ordered
returns-clause-ordered c = line_ordered
