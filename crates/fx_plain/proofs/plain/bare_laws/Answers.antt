use Rattle.fx_plain.proofs.Bare.{bare-bare, bare-insert, bare-root, get-bare}
use Rattle.fx_plain.proofs.plain.bare_laws.Goals as goal

pub returns-clause-get : goal.returns-clause-get
returns-clause-get c = get-bare

pub returns-clause-root : goal.returns-clause-root
returns-clause-root c = bare-root

pub returns-clause-again : goal.returns-clause-again
returns-clause-again c = bare-bare

pub returns-clause-insert : goal.returns-clause-insert
returns-clause-insert c = bare-insert
