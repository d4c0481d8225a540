use Rattle.fx_super.proofs.Blocks.{stands}
use Rattle.fx_super.proofs.Chosen.{one_fields, no_other_version}
use Rattle.fx_super.proofs.laws.one_spelling.Goals as goal

pub returns-clause-fields : goal.returns-clause-fields
returns-clause-fields c = one_fields

pub returns-clause-version : goal.returns-clause-version
returns-clause-version c = no_other_version

pub returns-clause-length : goal.returns-clause-length
returns-clause-length c = λ block f h. (stands block f h).long
