use Rattle.std.proofs.Common.{rules, ℕ, cond, Some, get_or, refl, ap, ◌∙◌, arith}
use Rattle.std.specs.Ordering.{is_eq, nat_cmp}
use Rattle.fx_verify.specs.Written.{sum_at}
use Rattle.fx_verify.proofs.Sums.{state_more}
use Rattle.fx_verify.proofs.written.state.Goals as goal

pub loop-sum-preserved : goal.loop-sum-preserved
loop-sum-preserved c = (
  omega (arith, c.loop-sum.invariant.0),
  state_more c.args.block c.args.sums.now c.loop-sum.sum-index (get_or c.args.sums.now c.loop-sum.sum-index 0) (sum_at c.args.stated.now) (sum_at c.loop-sum.stated) (sum_at c.insert.new.self) (search rules) refl c.loop-sum.invariant.1
      (λ b. c.in_ok-insert.ensures.updates.0 b ∙ ap (λ (n : ℕ). cond (is_eq (nat_cmp n b)) (Some (get_or c.args.sums.now c.loop-sum.sum-index 0)) (sum_at c.loop-sum.stated b)) c.loop-sum.invariant.0),
)
