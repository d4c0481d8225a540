use Rattle.std.proofs.Common.{◌≡◌, take}
use Rattle.std.specs.List.{flat_map}
use Rattle.fx_item.specs.Look.{value_in}
use Rattle.fx_nodes.specs.Faults.{wrong_by}
use Rattle.fx_nodes.specs.Links.{links_in}
use Rattle.fx_nodes.proofs.checking.misplaced.Given as goal

abbrev pub invariant-loop-child : goal.invariant-loop-child
invariant-loop-child l = l.wrong.items ≡ flat_map (wrong_by (value_in l.graph)) (links_in (take l.child-index l.child-items))
