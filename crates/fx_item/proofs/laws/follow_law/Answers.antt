use Rattle.fx_item.proofs.Follow.{follow_holds}
use Rattle.fx_item.proofs.laws.follow_law.Goals as goal

pub returns : goal.returns
returns c = follow_holds
