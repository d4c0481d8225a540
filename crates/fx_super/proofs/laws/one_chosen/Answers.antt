use Rattle.fx_super.proofs.Chosen.{one_chosen}
use Rattle.fx_super.proofs.laws.one_chosen.Goals as goal

pub returns-clause-same : goal.returns-clause-same
returns-clause-same c = one_chosen

pub returns-clause-not_none : goal.returns-clause-not_none
returns-clause-not_none c = λ image w f h none. none w f h.is_super
