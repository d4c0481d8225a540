use Rattle.fx_alloc.proofs.RoomKept.{freed-room, settled-room}
use Rattle.fx_alloc.proofs.laws.room_of_freed.Goals as goal

pub returns-clause-freed : goal.returns-clause-freed
returns-clause-freed c = freed-room

pub returns-clause-settled : goal.returns-clause-settled
returns-clause-settled c = settled-room
