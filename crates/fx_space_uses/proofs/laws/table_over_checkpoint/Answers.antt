use Rattle.fx_space_uses.proofs.Table.{called_aside, called_laying, called_laid, called_laid_firm, called_switched, called_pinned}
use Rattle.fx_space_uses.proofs.laws.table_over_checkpoint.Goals as goal

pub returns-clause-aside : goal.returns-clause-aside
returns-clause-aside c = called_aside

pub returns-clause-taken : goal.returns-clause-taken
returns-clause-taken c = called_laying

pub returns-clause-written : goal.returns-clause-written
returns-clause-written c = called_laid

pub returns-clause-flushed : goal.returns-clause-flushed
returns-clause-flushed c = called_laid_firm

pub returns-clause-switch : goal.returns-clause-switch
returns-clause-switch c = called_switched

pub returns-clause-pin_ended : goal.returns-clause-pin_ended
returns-clause-pin_ended c = called_pinned
