use Rattle.std.proofs.Common.{rules, tests, ◌≡◌, ◌∙◌, not, filter, ap}
use Rattle.std.proofs.lemmas.Fn.{filter_same}
use Rattle.fx_item.specs.Item.{items_of, value_of}
use Rattle.fx_item.specs.Look.{is_gone}
use Rattle.fx_item.specs.declared.item.Item.{Item}
use Rattle.fx_found.proofs.Alive.{items_alive}
use Rattle.fx_found.proofs.standing.without_tombstones.Goals as goal

pub returns : goal.returns
returns c =
    let kept : c.retain.new.self.items ≡ filter (λ (x : Item). not (is_gone (value_of x.value))) c.into_vec-items.result.items =
    filter_same _ (λ (x : Item). not (is_gone (value_of x.value))) _ (λ x b t h. search (rules, tests)) c.into_vec-items.result.items c.retain.new.self.items c.retain.ensures.filtered in
    ap items_of (c.new.ensures ∙ kept ∙ ap (filter (λ (x : Item). not (is_gone (value_of x.value)))) c.into_vec-items.ensures) ∙ items_alive c.args.items
