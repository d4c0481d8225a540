use Rattle.std.proofs.Common.{rules, ◌≡◌, length, sym, subst, List}
use Rattle.fx_item.specs.Item.{items_of}
use Rattle.fx_item.specs.declared.item.Item.{Item}
use Rattle.fx_extent.specs.Allocations.{AreAllocationsOf}
use Rattle.fx_extent.proofs.Rows.{allocations_end, ascending_any, rows_fit, rows_step}
use Rattle.fx_extent.proofs.taking.allocations.Goals as goal

pub first_row-next-requires-clause-taken : goal.first_row-next-requires-clause-taken
first_row-next-requires-clause-taken c = ascending_any c.rows.invariant.least c.rows.taken_left.now c.rows.invariant.rest

pub first_row-next-requires-clause-freed : goal.first_row-next-requires-clause-freed
first_row-next-requires-clause-freed c = ascending_any c.rows.invariant.least c.rows.freed_left.now c.rows.invariant.others

pub range-requires-clause-fits : goal.range-requires-clause-fits
range-requires-clause-fits c =
    let next = c.first_row-next.result in
    (rows_fit c.args.taken.now c.args.freed.now c.rows.taken_left.now c.rows.freed_left.now next.row.now next.taken.now next.freed.now next.is_taken c.first_row-next.ensures.taken c.first_row-next.ensures.freed (items_of c.rows.items.items) c.rows.invariant).1

pub rows-preserved : goal.rows-preserved
rows-preserved c =
    let next = c.first_row-next.result in
    rows_step c.args.taken.now c.args.freed.now c.rows.taken_left.now c.rows.freed_left.now next.row.now next.taken.now next.freed.now next.is_taken c.first_row-next.ensures.taken c.first_row-next.ensures.freed
    c.rows.items.items c.push.new.self.items c.range.result c.in_ok-push.ensures.items c.range.ensures.item c.range.ensures.good c.rows.invariant

pub returns : goal.returns
returns c =
    let none : length c.rows.taken_left.now ≡ 0 = search rules in
    let no_more : length c.rows.freed_left.now ≡ 0 = search rules in
    subst (λ (xs : List Item). AreAllocationsOf c.args.taken.now c.args.freed.now (items_of xs)) (sym c.new.ensures)
    (allocations_end c.args.taken.now c.args.freed.now c.rows.taken_left.now c.rows.freed_left.now (items_of c.rows.items.items) none no_more c.rows.invariant)
