use Rattle.fx_item.proofs.Meetings.{meet_holds}
use Rattle.fx_item.proofs.laws.meet_law.Goals as goal

pub returns : goal.returns
returns c = meet_holds
