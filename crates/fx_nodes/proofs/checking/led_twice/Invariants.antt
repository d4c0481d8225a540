use Rattle.std.proofs.Common.{false}
use Rattle.fx_nodes.specs.Faults.{AreRepeated}
use Rattle.fx_nodes.specs.Reach.{AreAdded, has}
use Rattle.fx_nodes.proofs.checking.led_twice.Given as goal

abbrev pub invariant-loop-node : goal.invariant-loop-node
invariant-loop-node l = record {
  led : AreAdded (λ node. false) (has l.led) l.yielded;
  twice : AreRepeated l.yielded l.twice.items;
}
