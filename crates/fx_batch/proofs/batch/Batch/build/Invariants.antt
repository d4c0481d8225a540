use Rattle.fx_item.specs.Item.{items_of}
use Rattle.fx_batch.proofs.Rising.{IsRising}
use Rattle.fx_batch.proofs.batch.Batch.build.Given as goal

abbrev pub invariant-loop-i : goal.invariant-loop-i
invariant-loop-i l = IsRising (items_of l.fn.items) l.i
