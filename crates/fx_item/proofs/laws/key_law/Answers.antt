use Rattle.fx_item.proofs.Keys.{key_holds}
use Rattle.fx_item.proofs.laws.key_law.Goals as goal

pub returns : goal.returns
returns c = key_holds
