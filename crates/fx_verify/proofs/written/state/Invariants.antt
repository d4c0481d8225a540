use Rattle.std.proofs.Common.{◌≡◌, ℕ, ◌+◌, take}
use Rattle.fx_verify.specs.Kept.{last_stated, with_sums}
use Rattle.fx_verify.specs.Written.{sum_at}
use Rattle.fx_verify.proofs.written.state.Given as goal

abbrev pub invariant-loop-sum : goal.invariant-loop-sum
invariant-loop-sum l =
    (l.next ≡ l.block + l.sum-index)
    × ((b : ℕ) → sum_at l.stated b ≡ last_stated b (with_sums l.block (take l.sum-index l.sums)) (sum_at l.fn.stated b))
