use Rattle.fx_worked.proofs.Stated.{stated-next}
use Rattle.fx_worked.proofs.keeping.stated.Goals as goal

pub loop-item-preserved : goal.loop-item-preserved
loop-item-preserved c = stated-next c.args.block c.args.items.now c.loop-item.item-index c.item-item.result c.loop-item.last c.stated_by-last.result _ c.loop-item-test.true c.item-item.is c.stated_by-last.ensures c.loop-item.invariant
