use Rattle.std.proofs.Common.{rules, ◌≤◌, ◌+◌, true, false, take, sym, ◌∙◌, arith}
use Rattle.fx_item.specs.Item.{items_of}
use Rattle.fx_item.specs.Order.{is_ascending}
use Rattle.fx_layfile.proofs.Walking.{ascending_step, disorder_whole, and_is}
use Rattle.fx_layfile.proofs.reading.ascends_from.Goals as goal

pub returns-then-not-may_precede : goal.returns-then-not-may_precede
returns-then-not-may_precede c =
    let one : 1 ≤ c.loop-i.i = omega (arith, c.max-i.ensures) in
    let step = ascending_step c.args.items.now c.loop-i.i c.index-items-i.result c.index-items-i-in-loop-i.result one (search rules) in
    sym (disorder_whole c.args.items.now (c.loop-i.i + 1) (step ∙ and_is (is_ascending (items_of (take c.loop-i.i c.args.items.now))) _ true false c.loop-i.invariant (sym c.may_precede.ensures ∙ c.if-not-may_precede.true)))

pub loop-i-preserved : goal.loop-i-preserved
loop-i-preserved c =
    let one : 1 ≤ c.loop-i.i = omega (arith, c.max-i.ensures) in
    let step = ascending_step c.args.items.now c.loop-i.i c.index-items-i.result c.index-items-i-in-loop-i.result one (search rules) in
    step ∙ and_is (is_ascending (items_of (take c.loop-i.i c.args.items.now))) _ true true c.loop-i.invariant (sym c.may_precede.ensures ∙ c.if-not-may_precede.false)
