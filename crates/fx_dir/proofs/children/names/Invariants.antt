use Rattle.fx_item.specs.Look.{map_of}
use Rattle.fx_dir.proofs.Listed.{AreBefore, left_from}
use Rattle.fx_dir.proofs.children.names.Given as goal

abbrev pub invariant-loop-names : goal.invariant-loop-names
invariant-loop-names g l = AreBefore (map_of (g.L.Look.said l.look)) l.at l.from l.names.items

abbrev pub decreases-loop-names : goal.decreases-loop-names
decreases-loop-names g l = left_from l.at l.from (g.L.Look.keys l.look)
