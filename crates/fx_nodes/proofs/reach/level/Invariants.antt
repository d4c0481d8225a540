use Rattle.fx_item.specs.Look.{value_in}
use Rattle.fx_nodes.specs.Reach.{IsLevel}
use Rattle.fx_nodes.proofs.reach.level.Given as goal

abbrev pub invariant-loop-shorter : goal.invariant-loop-shorter
invariant-loop-shorter l = IsLevel (value_in l.graph) l._shorter l.level.items
