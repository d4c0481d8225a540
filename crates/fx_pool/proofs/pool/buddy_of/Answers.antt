use Rattle.std.proofs.Common.{ℕ, ◌*◌, ◌%◌, ap, ◌∙◌, arith}
use Rattle.std.proofs.Math.Nat.{pow-le-pow_right}
use Rattle.fx_pool.proofs.Buddies.{first-half, second-half}
use Rattle.fx_pool.proofs.pool.buddy_of.Goals as goal

pub overflow_mul-len : goal.overflow_mul-len
overflow_mul-len c = omega (arith, c.blocks-len.ensures, pow-le-pow_right {n = 2} (omega arith) c.requires.order)

pub returns-then-start-len-eq0 : goal.returns-then-start-len-eq0
returns-then-start-len-eq0 c = rw (c.blocks-len.ensures) (first-half c.args.start c.args.order (rw (c.blocks-len.ensures) at c.if-start-len-eq0.true))

pub returns-else-start-len-eq0 : goal.returns-else-start-len-eq0
returns-else-start-len-eq0 c = rw (c.blocks-len.ensures) (second-half c.args.start c.args.order c.requires.aligned (λ e. c.if-start-len-eq0.false (ap (λ (m : ℕ). c.args.start % (2 * m)) c.blocks-len.ensures ∙ e)))
