use Rattle.std.proofs.Common.{◌≡◌, ◌++◌, ◌∷◌, [], sym, ap, subst, ◌∙◌}
use Rattle.std.specs.Prelude.{All}
use Rattle.std.proofs.lemmas.List.{map-append}
use Rattle.std.proofs.lemmas.List.Elements.{All-push}
use Rattle.fx_item.specs.Item.{IsItem, item_of, items_of}
use Rattle.fx_audit.proofs.tests.items_in.Goals as goal

pub loop-row-preserved-in_ok-push : goal.loop-row-preserved-in_ok-push
loop-row-preserved-in_ok-push c =
    let x = c.in_ok-item_in.field-0 in
    let all : items_of c.push.new.self.items ≡ items_of c.loop-row.items.items ++ item_of x ∷ [] =
    ap items_of c.in_ok-push.ensures.items ∙ map-append item_of c.loop-row.items.items (x ∷ []) in
    let each : All IsItem (items_of c.push.new.self.items) = subst (All IsItem) (sym all) (All-push IsItem (items_of c.loop-row.items.items) (item_of x) c.loop-row.invariant c.in_ok-item_in.ensures) in
    each
