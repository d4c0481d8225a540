use Rattle.std.proofs.Common.{◌≡◌, take}
use Rattle.fx_audit.specs.Claims.{single_ranges}
use Rattle.fx_audit.proofs.blocks.single_ranges.Given as goal

abbrev pub invariant-loop-block : goal.invariant-loop-block
invariant-loop-block l = l.ranges.items ≡ single_ranges (take l.block-index l.blocks)
