use Rattle.std.proofs.Common.{◌≡◌, take}
use Rattle.fx_nodes.specs.Links.{links_of, nodes_below}
use Rattle.fx_nodes.proofs.reach.nodes_below.Given as goal

abbrev pub invariant-loop-node : goal.invariant-loop-node
invariant-loop-node l = l.below.items ≡ nodes_below (links_of l.graph) (take l.node-index l.nodes)
