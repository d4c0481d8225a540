use Rattle.std.proofs.Common.{◌≡◌, take}
use Rattle.fx_nodes.specs.Links.{links_in, targets_in}
use Rattle.fx_nodes.proofs.graph.Graph.targets.Given as goal

abbrev pub invariant-loop-child : goal.invariant-loop-child
invariant-loop-child l = l.nodes.items ≡ targets_in (links_in (take l.child-index l.child-items))
