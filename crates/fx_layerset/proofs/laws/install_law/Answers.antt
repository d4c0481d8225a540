use Rattle.fx_layerset.proofs.Replaced.{install_holds}
use Rattle.fx_layerset.proofs.laws.install_law.Goals as goal

pub returns : goal.returns
returns c = install_holds
