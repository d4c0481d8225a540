use Rattle.std.proofs.Common.{◌≡◌, ℕ, ◌<◌, false}
use Rattle.fx_audit.specs.Claims.{is_bad_block}
use Rattle.fx_audit.proofs.blocks.first_bad.Given as goal

abbrev pub invariant-loop-block : goal.invariant-loop-block
invariant-loop-block l = (other : ℕ) → other < l.block → is_bad_block l.image.ring l.image.disk l.files l.taken l.layers other ≡ false
