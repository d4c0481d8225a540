use Rattle.fx_alloc.proofs.RoomKept.{space-is_whole, checkpoints-begin, counts-decide}
use Rattle.fx_alloc.proofs.laws.room_suffices.Goals as goal

pub returns-clause-whole : goal.returns-clause-whole
returns-clause-whole c = space-is_whole

pub returns-clause-begin : goal.returns-clause-begin
returns-clause-begin c = checkpoints-begin

pub returns-clause-decide : goal.returns-clause-decide
returns-clause-decide c = counts-decide
