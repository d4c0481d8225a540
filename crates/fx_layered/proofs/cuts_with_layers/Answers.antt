use Rattle.fx_layered.proofs.CutsSound.{cuts_layered}
use Rattle.fx_layered.proofs.cuts_with_layers.Goals as goal

pub returns : goal.returns
returns c = record { cuts = cuts_layered }
