use Rattle.std.proofs.Common.{◌≡◌, ◌++◌, take}
use Rattle.fx_ckpt.proofs.checkpoint.with_all.Given as goal

abbrev pub invariant-loop-block : goal.invariant-loop-block
invariant-loop-block l = l.list ≡ l.fn.list ++ take l.block-index l.layers
