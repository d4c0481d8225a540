use Rattle.fx_plain.proofs.Bare.{create_made, mkdir_made, write_made}
use Rattle.fx_plain.proofs.plain.change_laws.Goals as goal

pub returns-clause-mkdir : goal.returns-clause-mkdir
returns-clause-mkdir c = mkdir_made

pub returns-clause-create : goal.returns-clause-create
returns-clause-create c = create_made

pub returns-clause-write : goal.returns-clause-write
returns-clause-write c = write_made
