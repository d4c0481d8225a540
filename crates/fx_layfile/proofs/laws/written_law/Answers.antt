use Rattle.fx_layfile.proofs.Written.{begun}
use Rattle.fx_layfile.proofs.Standing.{written_holds}
use Rattle.fx_layfile.proofs.laws.written_law.Goals as goal

pub returns-clause-begun : goal.returns-clause-begun
returns-clause-begun c = begun

pub returns-clause-stands : goal.returns-clause-stands
returns-clause-stands c = written_holds
