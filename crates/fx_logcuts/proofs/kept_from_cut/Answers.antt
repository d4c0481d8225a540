use Rattle.fx_logcuts.proofs.CutKeeps.{shows-commits}
use Rattle.fx_logcuts.proofs.kept_from_cut.Goals as goal

pub returns : goal.returns
returns c = record {
  kept = λ opened last blocks text commits n count epoch k settled marks a cut fits within few whole. shows-commits opened last blocks text commits a n count cut fits epoch k settled marks within few whole;
}
