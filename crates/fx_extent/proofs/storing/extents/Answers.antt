use Rattle.std.proofs.Common.{rules, ◌≡◌, length, take, drop, sym, subst, List}
use Rattle.fx_item.specs.Item.{items_of}
use Rattle.fx_item.specs.declared.item.Item.{Item}
use Rattle.fx_extent.specs.Staged.{AreExtentsOf}
use Rattle.fx_extent.proofs.Runs.{rising_any}
use Rattle.fx_extent.proofs.SoFar.{extents_end, extents_fit, extents_step}
use Rattle.fx_extent.proofs.storing.extents.Goals as goal

pub run_length-requires-clause-rising : goal.run_length-requires-clause-rising
run_length-requires-clause-rising c = rising_any c.runs.invariant.least c.runs.rest.now c.runs.invariant.rising

pub extent-requires-clause-file : goal.extent-requires-clause-file
extent-requires-clause-file c =
    let front : c.split_at.result.0.now ≡ take c.run_length.result c.runs.rest.now = search rules in
    (extents_fit c.args.at c.args.written.now c.runs.rest.now c.split_at.result.0.now c.run_length.result (items_of c.runs.items.items) c.run_length.ensures front c.runs.invariant).0

pub extent-requires-clause-device : goal.extent-requires-clause-device
extent-requires-clause-device c =
    let front : c.split_at.result.0.now ≡ take c.run_length.result c.runs.rest.now = search rules in
    (extents_fit c.args.at c.args.written.now c.runs.rest.now c.split_at.result.0.now c.run_length.result (items_of c.runs.items.items) c.run_length.ensures front c.runs.invariant).1

pub runs-preserved : goal.runs-preserved
runs-preserved c =
    let front : c.split_at.result.0.now ≡ take c.run_length.result c.runs.rest.now = search rules in
    let back : c.split_at.result.1.now ≡ drop c.run_length.result c.runs.rest.now = search rules in
    extents_step c.args.at c.args.written.now c.runs.rest.now c.split_at.result.0.now c.split_at.result.1.now c.run_length.result c.runs.items.items c.push.new.self.items c.in_ok-extent.field-0 c.run_length.ensures front back c.in_ok-push.ensures.items c.in_ok-extent.ensures.item c.in_ok-extent.ensures.good c.runs.invariant

pub returns : goal.returns
returns c =
    let none : length c.runs.rest.now ≡ 0 = search rules in
    subst (λ (xs : List Item). AreExtentsOf c.args.at c.args.written.now (items_of xs)) (sym c.new.ensures)
    (extents_end c.args.at c.args.written.now c.runs.rest.now (items_of c.runs.items.items) none c.runs.invariant)
