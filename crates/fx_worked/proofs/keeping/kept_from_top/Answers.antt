use Rattle.std.proofs.Common.{rules, ◌≡◌, ◌+◌, ◌-◌, length, subst, arith}
use Rattle.fx_verify.specs.Kept.{IsKeptNumber, plain_txns}
use Rattle.fx_worked.proofs.Numbered.{NoMore, kept_here, no_more_less, nothing_fails}
use Rattle.fx_worked.proofs.keeping.kept_from_top.Goals as goal

pub returns-then-branch : goal.returns-then-branch
returns-then-branch c =
    kept_here c.args.base c.args.txns.now c.args.found.now (length c.args.txns.now - c.loop-dropped.dropped) (omega arith) (search rules) c.loop-dropped.invariant

pub loop-dropped-preserved : goal.loop-dropped-preserved
loop-dropped-preserved c =
    no_more_less c.args.txns.now c.args.found.now c.loop-dropped.dropped c.loop-dropped-test.true c.loop-dropped.invariant (λ p. absurd (cc (c.if-branch.false, c.in_ok-passes.ensures.1 p)))

pub returns : goal.returns
returns c =
    let none : c.args.base + 0 ≡ c.args.base = omega arith in
    let left : length c.args.txns.now - c.loop-dropped.dropped ≡ 0 = omega (arith, c.loop-dropped-test.false) in
    subst (IsKeptNumber c.args.base (plain_txns c.args.txns.now) c.args.found.now) none
    (kept_here c.args.base c.args.txns.now c.args.found.now 0 (omega arith) (nothing_fails c.args.found.now) (subst (NoMore c.args.txns.now c.args.found.now) left c.loop-dropped.invariant))
