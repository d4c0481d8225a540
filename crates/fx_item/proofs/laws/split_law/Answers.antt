use Rattle.fx_item.proofs.Meetings.{split_holds}
use Rattle.fx_item.proofs.laws.split_law.Goals as goal

pub returns : goal.returns
returns c = split_holds
