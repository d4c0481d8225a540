use Rattle.std.proofs.Common.{arith}
use Rattle.fx_record.proofs.Steps.{is_item, len_more}
use Rattle.fx_record.proofs.writing.items_len.Goals as goal

pub encoded_len-len-requires : goal.encoded_len-len-requires
encoded_len-len-requires c =
    (is_item c.args.items.now c.loop-item.item-index c.item-item.result (omega arith) c.item-item.is c.requires.items).item

pub overflow_add-len : goal.overflow_add-len
overflow_add-len c =
    omega (arith, c.loop-item.invariant, c.requires.short, c.encoded_len-len.ensures, len_more c.args.items.now c.loop-item.item-index c.item-item.result (omega arith) c.item-item.is)

pub loop-item-preserved : goal.loop-item-preserved
loop-item-preserved c =
    omega (arith, c.loop-item.invariant, c.encoded_len-len.ensures, len_more c.args.items.now c.loop-item.item-index c.item-item.result (omega arith) c.item-item.is)
