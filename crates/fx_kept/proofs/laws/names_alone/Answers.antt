use Rattle.fx_kept.proofs.NamesAlone.{all_kept, names_used, names_held}
use Rattle.fx_kept.proofs.laws.names_alone.Goals as goal

pub returns-clause-kept : goal.returns-clause-kept
returns-clause-kept c = all_kept

pub returns-clause-uses : goal.returns-clause-uses
returns-clause-uses c = names_used

pub returns-clause-cells : goal.returns-clause-cells
returns-clause-cells c = names_held
