use Rattle.std.proofs.Common.{take}
use Rattle.fx_nodes.specs.Reach.{AreAdded, has}
use Rattle.fx_nodes.proofs.reach.add_all.Given as goal

abbrev pub invariant-loop-node : goal.invariant-loop-node
invariant-loop-node l = AreAdded (has l.fn.set) (has l.set) (take l.node-index l.nodes)
