use Rattle.fx_alloc.proofs.Lasting.{draws-last, checkpoints-last}
use Rattle.fx_alloc.proofs.laws.promises_last.Goals as goal

pub returns-clause-draws : goal.returns-clause-draws
returns-clause-draws c = draws-last

pub returns-clause-layers : goal.returns-clause-layers
returns-clause-layers c = checkpoints-last
