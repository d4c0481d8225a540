use Rattle.std.proofs.Common.{◌≡◌, ◌∙◌, ◌++◌, ◌∷◌, [], List, true, sym, ap}
use Rattle.fx_item.specs.Item.{item_of, items_of}
use Rattle.fx_item.specs.Order.{is_ascending}
use Rattle.fx_item.specs.declared.item.Item.{Item}
use Rattle.fx_record.proofs.Steps.{takes}
use Rattle.fx_record.proofs.reading.read_item.Goals as goal

pub returns : goal.returns
returns c =
    let more : is_ascending (items_of c.args.items.now.items ++ item_of c.in-Ok.found.0 ∷ []) ≡ true =
    let same : is_ascending (items_of c.as_slice.result.now ++ item_of c.in-Ok.found.0 ∷ []) ≡ is_ascending (items_of c.args.items.now.items ++ item_of c.in-Ok.found.0 ∷ []) =
    ap (λ (w : List Item). is_ascending (items_of w ++ item_of c.in-Ok.found.0 ∷ [])) c.as_slice.ensures.value in
    sym same ∙ sym c.may_append.ensures ∙ c.if-not-may_append.false in
    takes c.args.items.now.items c.push.new.self.items c.in-Ok.found.0 c.in-Ok.found.1 c.args.bytes.now c.split_at.result.1.now
    c.requires c.in_ok-push.ensures.items c.in-Ok.ensures.found.0 more c.in-Ok.ensures.found.2 c.split_at.ensures.back
