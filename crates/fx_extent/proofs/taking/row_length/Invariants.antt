use Rattle.std.proofs.Common.{◌≡◌, ℕ, ◌+◌, ◌-◌, ◌<◌, ◌≤◌, length}
use Rattle.fx_extent.specs.Allocations.{nth_number}
use Rattle.fx_extent.proofs.taking.row_length.Given as goal

abbrev pub invariant-blocks-2 : goal.invariant-blocks-2
invariant-blocks-2 l = (0 < l.count) × (l.count ≤ length l.fn.blocks) × ((k : ℕ) → k < l.count → nth_number l.fn.blocks k ≡ nth_number l.fn.blocks 0 + k)

abbrev pub decreases-blocks-2 : goal.decreases-blocks-2
decreases-blocks-2 l = length l.fn.blocks - l.count
