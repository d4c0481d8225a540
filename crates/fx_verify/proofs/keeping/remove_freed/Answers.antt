use Rattle.std.proofs.Common.{rules}
use Rattle.fx_verify.specs.Wrong.{holds_block}
use Rattle.fx_verify.proofs.Judging.{freed_more}
use Rattle.fx_verify.proofs.keeping.remove_freed.Goals as goal

pub loop-item-preserved : goal.loop-item-preserved
loop-item-preserved c =
    freed_more c.args.items.now c.loop-item.item-index c.item-item.result (holds_block c.args.wrong.now) (holds_block c.loop-item.wrong) (holds_block c.remove_item.new.wrong) (search rules) (search rules) c.loop-item.invariant (search rules)
