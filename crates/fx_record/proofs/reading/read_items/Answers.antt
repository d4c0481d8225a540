use Rattle.std.proofs.Common.{◌∙◌}
use Rattle.std.proofs.lemmas.List.{length-map}
use Rattle.std.proofs.lemmas.Result.{err_from_is_err_and}
use Rattle.fx_item.specs.Item.{item_of, items_of}
use Rattle.fx_record.proofs.Steps.{bad_item}
use Rattle.fx_record.proofs.reading.read_items.Goals as goal

pub returns-in_err-rest : goal.returns-in_err-rest
returns-in_err-rest c =
    let p = err_from_is_err_and c.from_residual.result c.from_residual.ensures.1 in
    rw (p.1, p.2) (bad_item c.in_err-rest.field-0.0 c.args.count c.loop-place.place c.args.bytes.now c.loop-place.rest.now (items_of c.loop-place.items.items) (items_of c.read_item.new.items.items)
    c.loop-place.invariant.are_items (length-map c.loop-place.items.items item_of ∙ c.loop-place.invariant.place_is) c.loop-place.invariant.parts c.loop-place-test.true c.in_err-rest.ensures)
