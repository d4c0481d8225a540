use Rattle.std.proofs.Common.{◌≡◌, ◌<◌, ℕ, false}
use Rattle.fx_alloc.specs.Uses.{is_free, use_at}
use Rattle.fx_alloc.proofs.uses.first_free.Given as goal

abbrev pub invariant-loop-at : goal.invariant-loop-at
invariant-loop-at l = (k : ℕ) → k < l.at → is_free (use_at l.uses k) ≡ false
