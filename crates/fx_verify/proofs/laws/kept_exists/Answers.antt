use Rattle.fx_verify.proofs.KeptLaws.{exists}
use Rattle.fx_verify.proofs.laws.kept_exists.Goals as goal

pub returns : goal.returns
returns c = exists
