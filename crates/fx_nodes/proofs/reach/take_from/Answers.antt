use Rattle.std.proofs.Common.{[], ◌∷◌, ◌++◌, length, length-append, arith, ap, sym, subst}
use Rattle.fx_nodes.specs.Reach.{AreTaken, has}
use Rattle.fx_nodes.proofs.Sets.{taken_more, taken_skip}
use Rattle.fx_nodes.proofs.reach.take_from.Goals as goal

pub loop-node-preserved : goal.loop-node-preserved
loop-node-preserved c = record {
  taken = taken_skip c.in-Some.node c.loop-node.invariant.taken c.if-remove.ensures.updates.0 (sym c.if-remove.ensures.test);
  count = omega (arith, c.if-remove.ensures.len, c.loop-node.invariant.count);
}

pub loop-node-preserved-in-Continue-1 : goal.loop-node-preserved-in-Continue-1
loop-node-preserved-in-Continue-1 c = record {
  taken =
      subst (AreTaken (has c.args.left.now) (has c.remove.new.self) (c.loop-node.yielded ++ c.in-Some.node ∷ [])) (sym c.in_ok-push.ensures.items)
      (taken_more c.in-Some.node c.loop-node.invariant.taken c.if-remove.ensures.updates.0 (sym c.if-remove.ensures.test));
  count = omega (arith, c.if-remove.ensures.len, c.loop-node.invariant.count, ap length c.in_ok-push.ensures.items, length-append c.loop-node.fresh.items (c.in-Some.node ∷ []));
}
