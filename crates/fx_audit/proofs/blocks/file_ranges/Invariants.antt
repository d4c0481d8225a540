use Rattle.std.proofs.Common.{◌≡◌, take}
use Rattle.fx_item.specs.Item.{items_of}
use Rattle.fx_audit.specs.Claims.{file_ranges}
use Rattle.fx_audit.proofs.blocks.file_ranges.Given as goal

abbrev pub invariant-loop-item : goal.invariant-loop-item
invariant-loop-item l = l.ranges.items ≡ file_ranges (items_of (take l.item-index l.items))
