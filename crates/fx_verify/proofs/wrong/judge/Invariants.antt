use Rattle.std.proofs.Common.{◌≡◌, ℕ, take}
use Rattle.std.specs.List.{fold}
use Rattle.fx_verify.specs.Wrong.{holds_block, holds_pair, judged}
use Rattle.fx_verify.proofs.wrong.judge.Given as goal

abbrev pub invariant-loop-block : goal.invariant-loop-block
invariant-loop-block l = (block : ℕ) → holds_block l.wrong block ≡ fold (judged (holds_pair l.fn.found) block) (holds_block l.fn.wrong block) (take l.block-index l.fn.written)
