use Rattle.fx_cuts.proofs.CutPoints.{cut_by_layers}
use Rattle.fx_cuts.proofs.cuts.cuts_by_layers.Goals as goal

pub returns : goal.returns
returns g c = record { cut = cut_by_layers g.L.LayerMeaning.means }
