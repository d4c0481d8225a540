use Rattle.std.proofs.Common.{◌≡◌, ◌++◌, take}
use Rattle.fx_item.specs.Item.{items_of}
use Rattle.fx_record.specs.Record.{items_bytes}
use Rattle.fx_record.proofs.writing.append_items.Given as goal

abbrev pub invariant-loop-item : goal.invariant-loop-item
invariant-loop-item l = l.into.items ≡ l.fn.into.items ++ items_bytes (items_of (take l.item-index l.items))
