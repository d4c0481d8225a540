use Rattle.fx_alloc.proofs.RoomKept.{seat-room, reserved-room, drawn-room, undone-room, taken-room}
use Rattle.fx_alloc.proofs.laws.room_of_numbers.Goals as goal

pub returns-clause-slot : goal.returns-clause-slot
returns-clause-slot c = seat-room

pub returns-clause-reserve : goal.returns-clause-reserve
returns-clause-reserve c = reserved-room

pub returns-clause-draw : goal.returns-clause-draw
returns-clause-draw c = drawn-room

pub returns-clause-undo : goal.returns-clause-undo
returns-clause-undo c = undone-room

pub returns-clause-take_over : goal.returns-clause-take_over
returns-clause-take_over c = taken-room
