use Rattle.std.proofs.Common.{◌≡◌, drop}
use Rattle.fx_item.specs.Item.{items_of}
use Rattle.fx_verify.specs.Kept.{is_freed_by}
use Rattle.fx_worked.proofs.keeping.is_freed.Given as goal

abbrev pub invariant-loop-item : goal.invariant-loop-item
invariant-loop-item l = is_freed_by (items_of (drop l.item-index l.items)) l.block ≡ is_freed_by (items_of l.items) l.block
