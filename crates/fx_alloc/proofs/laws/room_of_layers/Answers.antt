use Rattle.fx_alloc.proofs.RoomKept.{aside-room, laid-room, switched-room, pinned-room, unpinned-room}
use Rattle.fx_alloc.proofs.laws.room_of_layers.Goals as goal

pub returns-clause-aside : goal.returns-clause-aside
returns-clause-aside c = aside-room

pub returns-clause-layer_block : goal.returns-clause-layer_block
returns-clause-layer_block c = laid-room

pub returns-clause-switched : goal.returns-clause-switched
returns-clause-switched c = switched-room

pub returns-clause-pin : goal.returns-clause-pin
returns-clause-pin c = pinned-room

pub returns-clause-unpin : goal.returns-clause-unpin
returns-clause-unpin c = unpinned-room
