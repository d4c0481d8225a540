use Rattle.fx_uses.proofs.ReadsPut.{reads_put, reads_stated}
use Rattle.fx_uses.proofs.laws.reads_in_use.Goals as goal

pub returns-clause-put : goal.returns-clause-put
returns-clause-put c = reads_put

pub returns-clause-stated : goal.returns-clause-stated
returns-clause-stated c = reads_stated
