use Rattle.fx_record.proofs.Fronts.{one_answer, not_both, one_place}
use Rattle.fx_record.proofs.laws.one_txns.Goals as goal

pub returns-clause-txns : goal.returns-clause-txns
returns-clause-txns c = one_answer

pub returns-clause-not_both : goal.returns-clause-not_both
returns-clause-not_both c = not_both

pub returns-clause-place : goal.returns-clause-place
returns-clause-place c = one_place
