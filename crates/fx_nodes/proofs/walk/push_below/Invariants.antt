use Rattle.std.proofs.Common.{◌≡◌, ◌++◌, take, map}
use Rattle.fx_item.specs.Look.{value_in}
use Rattle.fx_nodes.specs.Links.{links_in}
use Rattle.fx_nodes.specs.Tree.{node_below}
use Rattle.fx_nodes.proofs.walk.push_below.Given as goal

abbrev pub invariant-loop-child : goal.invariant-loop-child
invariant-loop-child l = l.into.items ≡ l.fn.into.items ++ map (node_below (value_in l.graph) l.path) (links_in (take l.child-index l.child-items))
