use Rattle.std.proofs.Common.{◌≡◌, drop}
use Rattle.std.specs.List.{flat_map}
use Rattle.fx_item.specs.Item.{items_of}
use Rattle.fx_verify.specs.Kept.{last_stated, block_sums_of}
use Rattle.fx_worked.proofs.keeping.stated.Given as goal

abbrev pub invariant-loop-item : goal.invariant-loop-item
invariant-loop-item l = last_stated l.block (flat_map block_sums_of (items_of (drop l.item-index l.items))) l.last ≡ last_stated l.block (flat_map block_sums_of (items_of l.items)) l.initial.last
