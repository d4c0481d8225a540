use Rattle.fx_item.specs.Item.{items_of}
use Rattle.fx_merge.specs.Merge.{edges_past}
use Rattle.fx_merge.proofs.Drained.{Drained}
use Rattle.fx_merge.proofs.run.drain.Given as goal

abbrev pub invariant-loop-fault : goal.invariant-loop-fault
invariant-loop-fault g l = Drained l.initial.merge l.merge (items_of l.items.items)

abbrev pub decreases-loop-fault : goal.decreases-loop-fault
decreases-loop-fault g l = edges_past l.merge.levels l.merge.place
