use Rattle.fx_item.proofs.Covered.{cover_holds}
use Rattle.fx_item.proofs.laws.cover_law.Goals as goal

pub returns : goal.returns
returns c = cover_holds
