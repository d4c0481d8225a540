use Rattle.std.proofs.Common.{◌+◌, length}
use Rattle.fx_item.specs.Item.{items_of}
use Rattle.fx_extent.proofs.Rows.{AllocationsSoFar}
use Rattle.fx_extent.proofs.taking.allocations.Given as goal

abbrev pub invariant-rows : goal.invariant-rows
invariant-rows l = AllocationsSoFar l.fn.taken l.fn.freed l.taken_left l.freed_left (items_of l.items.items)

abbrev pub decreases-rows : goal.decreases-rows
decreases-rows l = length l.taken_left + length l.freed_left
