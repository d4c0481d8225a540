use Rattle.fx_keys.proofs.Waits.{no_cycle}
use Rattle.fx_keys.proofs.waiting.waiting_has_no_cycle.Goals as goal

pub returns : goal.returns
returns c = no_cycle
