use Rattle.fx_item.proofs.Overlays.{overlay_holds}
use Rattle.fx_item.proofs.laws.overlay_law.Goals as goal

pub returns : goal.returns
returns c = overlay_holds
