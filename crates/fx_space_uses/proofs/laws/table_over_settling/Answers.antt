use Rattle.fx_space_uses.proofs.Table.{called_freed, called_settled}
use Rattle.fx_space_uses.proofs.laws.table_over_settling.Goals as goal

pub returns-clause-freed : goal.returns-clause-freed
returns-clause-freed c = called_freed

pub returns-clause-settled : goal.returns-clause-settled
returns-clause-settled c = called_settled
