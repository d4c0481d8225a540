use Rattle.std.proofs.Common.{◌≡◌, ℕ, take}
use Rattle.fx_verify.specs.Kept.{is_written, plain_txns}
use Rattle.fx_verify.specs.Wrong.{holds_block}
use Rattle.fx_verify.proofs.blocks.blocks_of.Given as goal

abbrev pub invariant-loop-items : goal.invariant-loop-items
invariant-loop-items l = (b : ℕ) → holds_block l.blocks b ≡ is_written (plain_txns (take l.items-index l.fn.txns)) b
