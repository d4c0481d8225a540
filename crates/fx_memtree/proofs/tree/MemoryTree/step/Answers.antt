use Rattle.std.proofs.Common.{ap, ◌∙◌}
use Rattle.std.proofs.lemmas.Result.{IfOk-weaker}
use Rattle.fx_steps.specs.Rows.{do_tree_step}
use Rattle.fx_memtree.proofs.NodeRows.{del_step, truncate_step}
use Rattle.fx_memtree.proofs.tree.MemoryTree.step.Goals as goal

pub returns-in-Basic-clause-ok : goal.returns-in-Basic-clause-ok
returns-in-Basic-clause-ok c =
    IfOk-weaker c.basic_step.result _ _ (λ answer done. ap (do_tree_step c.args.self.now) c.in-Basic.is ∙ done) c.basic_step.ensures.ok

pub returns-in-Truncate-clause-ok : goal.returns-in-Truncate-clause-ok
returns-in-Truncate-clause-ok c =
    IfOk-weaker c.at_node.result _ _ (λ answer done.
    truncate_step c.args.self.now c.args.step.now c.as_slice.result.now _ _ c.in-Truncate.is c.as_slice.ensures ∙ done) c.at_node.ensures.ok

pub returns-in-DelAttr-clause-ok : goal.returns-in-DelAttr-clause-ok
returns-in-DelAttr-clause-ok c =
    IfOk-weaker c.below_root-in-DelAttr.result _ _ (λ answer done.
    del_step c.args.self.now c.args.step.now c.as_slice-in-DelAttr.result.now _ _ c.in-DelAttr.is c.as_slice-in-DelAttr.ensures ∙ done) c.below_root-in-DelAttr.ensures.ok
