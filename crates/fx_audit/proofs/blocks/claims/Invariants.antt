use Rattle.std.proofs.Common.{◌≡◌, take, length}
use Rattle.fx_item.specs.declared.item.TheConstants.{MAX_DEVICE_BLOCKS}
use Rattle.fx_audit.specs.Claims.{AreClaims}
use Rattle.fx_audit.proofs.blocks.claims.Given as goal

abbrev pub invariant-loop-range : goal.invariant-loop-range
invariant-loop-range l = record {
  len : length l.table.items ≡ MAX_DEVICE_BLOCKS;
  counts : AreClaims (take l.range-index l.ranges) l.table.items;
}
