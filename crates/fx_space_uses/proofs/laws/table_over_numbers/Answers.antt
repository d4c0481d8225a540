use Rattle.fx_space_uses.proofs.Table.{called_reserved, called_draw, called_staged, called_taken, called_given}
use Rattle.fx_space_uses.proofs.TableOpened.{called_seated}
use Rattle.fx_space_uses.proofs.laws.table_over_numbers.Goals as goal

pub returns-clause-reserve : goal.returns-clause-reserve
returns-clause-reserve c = called_reserved

pub returns-clause-draw : goal.returns-clause-draw
returns-clause-draw c = called_draw

pub returns-clause-stage : goal.returns-clause-stage
returns-clause-stage c = called_staged

pub returns-clause-commit : goal.returns-clause-commit
returns-clause-commit c = called_taken

pub returns-clause-rollback : goal.returns-clause-rollback
returns-clause-rollback c = called_given

pub returns-clause-seated : goal.returns-clause-seated
returns-clause-seated c uses s who seat none vacant h = called_seated s who seat none vacant uses h
