use Rattle.std.proofs.Common.{◌-◌, ◌^◌}
use Rattle.fx_item.specs.Look.{map_of}
use Rattle.fx_node.specs.Waiting.{rank_from}
use Rattle.fx_node.proofs.Buried.{AreGravesBefore}
use Rattle.fx_node.proofs.graveyard.graves.Given as goal

abbrev pub invariant-nodes : goal.invariant-nodes
invariant-nodes g l = AreGravesBefore (map_of (g.L.Look.said l.look)) (rank_from l.from) l.nodes.items

abbrev pub decreases-nodes : goal.decreases-nodes
decreases-nodes g l = 2 ^ 96 - rank_from l.from
