use Rattle.fx_core.proofs.Opened.{kept_by_state}
use Rattle.fx_core.proofs.Staying.{logged_later, logged_leaves, logged_mark}
use Rattle.fx_core.proofs.laws.logged_laws.Goals as goal

pub returns-clause-leaves : goal.returns-clause-leaves
returns-clause-leaves c = λ calls s j event l leaves may. logged_leaves calls s j l event leaves may

pub returns-clause-later : goal.returns-clause-later
returns-clause-later c = logged_later

pub returns-clause-settled : goal.returns-clause-settled
returns-clause-settled c = logged_mark

pub returns-clause-images : goal.returns-clause-images
returns-clause-images c = kept_by_state
