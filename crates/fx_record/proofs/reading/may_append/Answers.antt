use Rattle.std.proofs.Common.{◌≡◌, ◌-◌, ◌<◌, length, get_or, Bool, ◌&&◌, sym, ap, ◌∙◌, arith}
use Rattle.std.proofs.lemmas.Option.{get_or_from_slice_get, slice_get_within}
use Rattle.std.proofs.lemmas.List.{get_or-map, length-map}
use Rattle.fx_item.specs.Item.{PlainItem, item_of, items_of}
use Rattle.fx_item.specs.Order.{may_follow, is_ascending}
use Rattle.fx_record.proofs.Lists.{ascending_more}
use Rattle.fx_record.proofs.reading.may_append.Goals as goal

pub returns-in-Some : goal.returns-in-Some
returns-in-Some c =
    let xs = c.args.items.now in
    let last = c.in-Some.last.now in
    let y = item_of c.args.item.now in
    let within : length xs - 1 < length xs = slice_get_within xs (length xs - 1) last (sym c.in-Some.ensures.value) in
    let at : get_or xs (length xs - 1) last ≡ last = get_or_from_slice_get xs (length xs - 1) last last (sym c.in-Some.ensures.value) in
    let mapped : get_or (items_of xs) (length xs - 1) (item_of last) ≡ item_of last =
    get_or-map item_of xs (length xs - 1) last (item_of last) within ∙ ap item_of at in
    c.may_precede.ensures
    ∙ ap (λ (b : Bool). b && may_follow (item_of last).key y.key) (sym c.requires)
    ∙ ap (λ (z : PlainItem). is_ascending (items_of xs) && may_follow z.key y.key) (sym mapped)
    ∙ sym (ascending_more (items_of xs) (length xs - 1) y (item_of last) (omega (arith, length-map xs item_of)))
