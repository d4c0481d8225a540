use Rattle.std.proofs.Common.{◌≡◌, ◌+◌, ◌<◌, ◌≤◌, ◌++◌, All, length}
use Rattle.std.specs.Prelude.{vec_capacity}
use Rattle.fx_alloc.specs.Uses.{blocks_from}
use Rattle.fx_alloc.specs.Pins.{in_set}
use Rattle.fx_alloc.proofs.pins.keep_chain.Given as goal

abbrev pub invariant-loop-left : goal.invariant-loop-left
invariant-loop-left l = record {
  same : l.kept.items ++ in_set l.set (blocks_from l.links l.block l.left) ≡ l.initial.kept.items ++ in_set l.set (blocks_from l.links l.fn.chain.head l.fn.chain.len);
  room : length l.kept.items + l.left ≤ vec_capacity l.kept;
  below : All (λ b. b < length l.links) (blocks_from l.links l.block l.left);
}

abbrev pub decreases-loop-left : goal.decreases-loop-left
decreases-loop-left l = l.left
