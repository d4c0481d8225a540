use Rattle.fx_core.proofs.First.{first_begins}
use Rattle.fx_core.proofs.laws.first_core_law.Goals as goal

pub returns : goal.returns
returns c = λ seen f found levels ring pool disk rules next_rules blocks none room first empty ring_is buffers.
    first_begins seen f disk rules next_rules blocks none room found first.kept first.base first.blocks first.ids first.stores first.faults first.ring levels empty ring pool ring_is buffers
