use Rattle.fx_item.proofs.Keys.{order_holds}
use Rattle.fx_item.proofs.laws.order_law.Goals as goal

pub returns : goal.returns
returns c = order_holds
