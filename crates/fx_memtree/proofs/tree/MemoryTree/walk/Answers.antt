use Rattle.std.proofs.Common.{◌∙◌, arith, None, Some}
use Rattle.fx_plain.proofs.Walks.{walk_from_next}
use Rattle.fx_memtree.proofs.tree.MemoryTree.walk.Goals as goal

pub returns-in-Some : goal.returns-in-Some
returns-in-Some c = walk_from_next _ _ c.loop-end.end (Some c.in-Some.refusal) (omega arith) c.in-Some.ensures ∙ c.loop-end.invariant

pub loop-end-preserved : goal.loop-end-preserved
loop-end-preserved c = walk_from_next _ _ c.loop-end.end None (omega arith) c.in_default.ensures ∙ c.loop-end.invariant
