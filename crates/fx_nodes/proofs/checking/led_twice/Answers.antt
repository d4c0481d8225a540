use Rattle.std.proofs.Common.{[], ◌∷◌, ◌++◌, sym, subst}
use Rattle.fx_nodes.specs.Faults.{AreRepeated}
use Rattle.fx_nodes.proofs.Sets.{added_more, held_in, is_new, not_held, not_new, repeated_more, repeated_skip}
use Rattle.fx_nodes.proofs.checking.led_twice.Goals as goal

pub loop-node-preserved-in_ok-push : goal.loop-node-preserved-in_ok-push
loop-node-preserved-in_ok-push c =
    let node = c.in-Some.node in
    let i = c.loop-node.invariant in
    record {
      led = added_more node i.led c.in_ok-insert.ensures.updates.0;
      twice = subst (AreRepeated (c.loop-node.yielded ++ node ∷ [])) (sym c.in_ok-push.ensures.items) (repeated_more _ _ node i.twice (held_in i.led node (not_new _ _ c.in_ok-insert.ensures.added c.if-not-branch.true)));
    }

pub loop-node-preserved : goal.loop-node-preserved
loop-node-preserved c =
    let node = c.in-Some.node in
    let i = c.loop-node.invariant in
    record {
      led = added_more node i.led c.in_ok-insert.ensures.updates.0;
      twice = repeated_skip _ _ node i.twice (not_held i.led node (is_new _ _ c.in_ok-insert.ensures.added c.if-not-branch.false));
    }
