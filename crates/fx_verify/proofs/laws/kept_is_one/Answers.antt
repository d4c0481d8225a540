use Rattle.fx_verify.proofs.KeptLaws.{one}
use Rattle.fx_verify.proofs.laws.kept_is_one.Goals as goal

pub returns : goal.returns
returns c = one
