use Rattle.std.proofs.Common.{◌≡◌, ◌<◌, All, length}
use Rattle.fx_alloc.specs.Uses.{put_all, blocks_from}
use Rattle.fx_alloc.proofs.chain.turn.Given as goal

abbrev pub invariant-loop-left : goal.invariant-loop-left
invariant-loop-left l = record {
  same : put_all l.to (blocks_from l.links l.block l.left) l.uses ≡ put_all l.to (blocks_from l.links l.fn.chain.head l.fn.chain.len) l.initial.uses;
  below : All (λ b. b < length l.initial.uses) (blocks_from l.links l.block l.left);
}

abbrev pub decreases-loop-left : goal.decreases-loop-left
decreases-loop-left l = l.left
