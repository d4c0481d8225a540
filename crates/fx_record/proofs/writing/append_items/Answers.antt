use Rattle.std.proofs.Common.{arith}
use Rattle.fx_record.proofs.Steps.{is_item}
use Rattle.fx_record.proofs.writing.append_items.Goals as goal

pub encode-requires : goal.encode-requires
encode-requires c =
    (is_item c.args.items.now c.loop-item.item-index c.item-item.result (omega arith) c.item-item.is c.requires).item
