use Rattle.fx_events.proofs.Texts.{one_client}
use Rattle.fx_events.proofs.laws.text_law.Goals as goal

pub returns : goal.returns
returns c = one_client
