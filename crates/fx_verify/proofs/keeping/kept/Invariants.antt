use Rattle.std.proofs.Common.{◌≡◌, ℕ, ◌+◌, take}
use Rattle.fx_verify.specs.Kept.{IsKeptNumber, live_sum, plain_txns}
use Rattle.fx_verify.specs.Wrong.{holds_block, holds_pair, is_wrong}
use Rattle.fx_verify.proofs.keeping.kept.Given as goal

abbrev pub invariant-loop-items : goal.invariant-loop-items
invariant-loop-items l =
    (l.last ≡ l.base + l.items-index)
    × ((b : ℕ) → holds_block l.wrong b ≡ is_wrong (holds_pair l.pairs) b (live_sum (plain_txns (take l.items-index l.fn.txns)) b))
    × IsKeptNumber l.base (plain_txns (take l.items-index l.fn.txns)) l.fn.found l.kept
