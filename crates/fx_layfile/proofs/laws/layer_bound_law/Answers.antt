use Rattle.fx_layfile.proofs.Bounds.{layer_bound_holds}
use Rattle.fx_layfile.proofs.laws.layer_bound_law.Goals as goal

pub returns : goal.returns
returns c = layer_bound_holds
