use Rattle.std.proofs.Common.{◌≡◌, ℕ, take}
use Rattle.fx_verify.specs.Wrong.{holds_pair, is_found}
use Rattle.fx_verify.proofs.wrong.set_of.Given as goal

abbrev pub invariant-loop-pair : goal.invariant-loop-pair
invariant-loop-pair l = (block sum : ℕ) → holds_pair l.set block sum ≡ is_found (take l.pair-index l.fn.found) block sum
