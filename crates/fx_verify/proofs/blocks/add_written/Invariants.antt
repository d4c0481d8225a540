use Rattle.std.proofs.Common.{◌≡◌, ℕ, ◌==◌, ◌||◌, take}
use Rattle.std.specs.List.{list_any}
use Rattle.fx_verify.specs.Wrong.{holds_block}
use Rattle.fx_verify.proofs.blocks.add_written.Given as goal

abbrev pub invariant-loop-block : goal.invariant-loop-block
invariant-loop-block l = (b : ℕ) → holds_block l.blocks b ≡ (holds_block l.fn.blocks b || list_any (λ p. p.0 == b) (take l.block-index l.block-items))
