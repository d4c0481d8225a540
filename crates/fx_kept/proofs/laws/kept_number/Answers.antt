use Rattle.fx_kept.proofs.KeptExists.{kept_exists, kept_one}
use Rattle.fx_kept.proofs.AnyFirst.{kept_alike}
use Rattle.fx_kept.proofs.laws.kept_number.Goals as goal

pub returns-clause-exists : goal.returns-clause-exists
returns-clause-exists c = kept_exists

pub returns-clause-one : goal.returns-clause-one
returns-clause-one c = kept_one

pub returns-clause-alike : goal.returns-clause-alike
returns-clause-alike c = kept_alike
