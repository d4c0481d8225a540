use Rattle.fx_verify.proofs.KeptLaws.{live_written}
use Rattle.fx_verify.proofs.laws.live_is_written.Goals as goal

pub returns : goal.returns
returns c = live_written
