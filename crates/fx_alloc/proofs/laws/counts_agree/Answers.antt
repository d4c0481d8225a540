use Rattle.fx_alloc.proofs.SpaceLaws.{counts-agree}
use Rattle.fx_alloc.proofs.laws.counts_agree.Goals as goal

pub returns : goal.returns
returns c = counts-agree
