use Rattle.std.proofs.Common.{length}
use Rattle.fx_item.specs.Item.{items_of}
use Rattle.fx_extent.proofs.SoFar.{ExtentsSoFar}
use Rattle.fx_extent.proofs.storing.extents.Given as goal

abbrev pub invariant-runs : goal.invariant-runs
invariant-runs l = ExtentsSoFar l.at l.fn.written l.rest (items_of l.items.items)

abbrev pub decreases-runs : goal.decreases-runs
decreases-runs l = length l.rest
