use Rattle.fx_shown.proofs.OneShown.{one-shown}
use Rattle.fx_shown.proofs.one_shown.Goals as goal

pub returns : goal.returns
returns g c = record {
  one = λ single image b d p q ts us x y. one-shown g.L.LayerReader.says image single b d p q ts us x y;
}
