use Rattle.std.proofs.Common.{ap, ◌∙◌, subst}
use Rattle.std.proofs.lemmas.Result.{IfOk-weaker}
use Rattle.fx_steps.specs.declared.step.TreeStep.TheVariants.{Basic}
use Rattle.fx_memtree.proofs.NodeRows.{written_step}
use Rattle.fx_memtree.proofs.tree.MemoryTree.basic_step.Goals as goal

pub returns-in-Write-clause-ok : goal.returns-in-Write-clause-ok
returns-in-Write-clause-ok c =
    IfOk-weaker c.at_node.result _ _ (λ answer done.
    written_step c.args.self.now c.args.step.now c.args.one.now c.as_slice.result.now _ _ _ c.requires.basic c.in-Write.is c.as_slice.ensures ∙ done) c.at_node.ensures.ok
