use Rattle.std.proofs.Common.{rules}
use Rattle.fx_verify.proofs.Sums.{takes_end, takes_more}
use Rattle.fx_verify.proofs.written.written.Goals as goal

pub loop-item-preserved : goal.loop-item-preserved
loop-item-preserved c =
    takes_more c.args.items.now c.loop-item.item-index c.item-item.result (search rules) (search rules) c.loop-item.invariant c.in_ok-take_item.ensures

pub returns : goal.returns
returns c = takes_end c.args.items.now c.loop-item.item-index c.loop-item-test.false c.in_ok-stated.ensures c.loop-item.invariant
