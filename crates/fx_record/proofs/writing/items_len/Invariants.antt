use Rattle.std.proofs.Common.{◌≡◌, ◌+◌, length, drop}
use Rattle.fx_item.specs.Item.{items_of}
use Rattle.fx_record.specs.Record.{items_bytes}
use Rattle.fx_record.proofs.writing.items_len.Given as goal

abbrev pub invariant-loop-item : goal.invariant-loop-item
invariant-loop-item l =
    l.len + length (items_bytes (items_of (drop l.item-index l.items))) ≡ length (items_bytes (items_of l.items))
