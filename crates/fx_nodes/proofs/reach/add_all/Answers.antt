use Rattle.std.proofs.Common.{take, add-one, ap, sym, subst, ◌∙◌}
use Rattle.std.proofs.Math.Seq.{take-suc}
use Rattle.fx_nodes.specs.Reach.{AreAdded, has}
use Rattle.fx_nodes.proofs.Sets.{added_more}
use Rattle.fx_nodes.proofs.reach.add_all.Goals as goal

pub loop-node-preserved : goal.loop-node-preserved
loop-node-preserved c =
    let i = c.loop-node.node-index in
    let nodes = c.args.nodes.now in
    subst (λ ns. AreAdded (has c.args.set.now) (has c.insert.new.self) ns) (sym (ap (λ j. take j nodes) (add-one i) ∙ take-suc nodes i (record { store = 0; id = 0 }) c.loop-node-test.true))
    (added_more _ c.loop-node.invariant c.in_ok-insert.ensures.updates.0)
