use Rattle.fx_layfile.proofs.Verdicts.{one_verdict}
use Rattle.fx_layfile.proofs.laws.one_verdict_law.Goals as goal

pub returns : goal.returns
returns c = λ bytes ring marks tree first v w h k. one_verdict bytes ring marks tree first v w h k
