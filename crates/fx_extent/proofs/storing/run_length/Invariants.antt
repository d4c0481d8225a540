use Rattle.std.proofs.Common.{ℕ, ◌-◌, ◌<◌, ◌≤◌, length}
use Rattle.fx_item.specs.declared.item.TheConstants.{MAX_EXTENT_BLOCKS}
use Rattle.fx_extent.specs.Staged.{IsInRow}
use Rattle.fx_extent.proofs.storing.run_length.Given as goal

abbrev pub invariant-blocks-2 : goal.invariant-blocks-2
invariant-blocks-2 l = (0 < l.count) × (l.count ≤ MAX_EXTENT_BLOCKS) × (l.count ≤ length l.fn.blocks) × ((k : ℕ) → k < l.count → IsInRow l.fn.blocks k)

abbrev pub decreases-blocks-2 : goal.decreases-blocks-2
decreases-blocks-2 l = MAX_EXTENT_BLOCKS - l.count
