use Rattle.fx_alloc.proofs.RoomKept.{opened-room}
use Rattle.fx_alloc.proofs.laws.room_after_mount.Goals as goal

pub returns : goal.returns
returns c = opened-room
