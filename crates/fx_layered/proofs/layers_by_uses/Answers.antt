use Rattle.fx_layered.proofs.ByUses.{named_now}
use Rattle.fx_layered.proofs.layers_by_uses.Goals as goal

pub returns : goal.returns
returns c = record { now = named_now }
