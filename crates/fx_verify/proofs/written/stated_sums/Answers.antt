use Rattle.std.proofs.Common.{rules}
use Rattle.fx_verify.specs.Written.{sum_at}
use Rattle.fx_verify.proofs.Sums.{state_next}
use Rattle.fx_verify.proofs.written.stated_sums.Goals as goal

pub loop-item-preserved : goal.loop-item-preserved
loop-item-preserved c =
    state_next c.args.items.now c.loop-item.item-index c.item-item.result (sum_at c.loop-item.stated) (sum_at c.state_item.new.stated) (search rules) (search rules) c.loop-item.invariant
    (search rules)
