use Rattle.fx_item.proofs.Overlays.{after_all_holds}
use Rattle.fx_item.proofs.laws.after_all_law.Goals as goal

pub returns : goal.returns
returns c = after_all_holds
