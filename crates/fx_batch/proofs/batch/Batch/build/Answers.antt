use Rattle.std.proofs.Common.{rules, ◌≡◌, ◌-◌, refl, ap, sym, ◌∙◌, length, get_or, arith}
use Rattle.fx_batch.proofs.Rising.{disorder, rising_list, rising_more}
use Rattle.fx_batch.proofs.batch.Batch.build.Goals as goal

pub returns-then-not-follows-clause-order : goal.returns-then-not-follows-clause-order
returns-then-not-follows-clause-order c =
    let here = c.index-sorted-i.is ∙ ap (λ xs. get_or xs (c.loop-i.i - 1) c.index-sorted-i.result) c.as_slice-sorted.ensures in
    let next = c.index-sorted-i-in-loop-i.is ∙ ap (λ xs. get_or xs c.loop-i.i c.index-sorted-i-in-loop-i.result) c.as_slice-sorted.ensures in
    disorder c.args.items c.loop-i.i c.index-sorted-i.result c.index-sorted-i-in-loop-i.result
    (let e = ap length c.as_slice-sorted.ensures in omega (arith, c.loop-i-test.true)) c.loop-i.auto.i here next c.follows.result c.follows.ensures c.loop-i.invariant c.if-not-follows.true

pub loop-i-preserved : goal.loop-i-preserved
loop-i-preserved c =
    let here = c.index-sorted-i.is ∙ ap (λ xs. get_or xs (c.loop-i.i - 1) c.index-sorted-i.result) c.as_slice-sorted.ensures in
    let next = c.index-sorted-i-in-loop-i.is ∙ ap (λ xs. get_or xs c.loop-i.i c.index-sorted-i-in-loop-i.result) c.as_slice-sorted.ensures in
    rising_more c.args.items c.loop-i.i c.index-sorted-i.result c.index-sorted-i-in-loop-i.result
    (let e = ap length c.as_slice-sorted.ensures in omega (arith, c.loop-i-test.true)) c.loop-i.auto.i here next c.follows.result c.follows.ensures c.loop-i.invariant c.if-not-follows.false

pub invariant_of-result : goal.invariant_of-result
invariant_of-result c = rising_list c.args.items c.loop-i.i c.requires.good c.loop-i.invariant (let e = ap length c.as_slice-sorted.ensures in omega (arith, c.loop-i-test.false))

pub returns-clause-built : goal.returns-clause-built
returns-clause-built c = (refl, rising_list c.args.items c.loop-i.i c.requires.good c.loop-i.invariant (let e = ap length c.as_slice-sorted.ensures in omega (arith, c.loop-i-test.false)))
