use Rattle.std.proofs.Common.{◌≡◌, ◌≢◌, [], ◌∷◌, sym, ap, subst, ◌∙◌}
use Rattle.std.specs.Prelude.{None, Some}
use Rattle.fx_item.specs.Item.{GoneValue, IsNameItem, item_of, value_of}
use Rattle.fx_item.specs.Look.{after, value_in}
use Rattle.fx_item.specs.declared.item.Item.{Item}
use Rattle.fx_item.specs.declared.item.Key.{Key}
use Rattle.fx_item.specs.declared.item.Value.{Value}
use Rattle.fx_nodes.specs.Table.{items_in}
use Rattle.fx_nodes.proofs.Kept.{alive, gone_left, kept_inserted, kept_removed, left_by, one_more}
use Rattle.fx_nodes.proofs.table.apply.Goals as goal

pub returns-in-Gone-clause-kept : goal.returns-in-Gone-clause-kept
returns-in-Gone-clause-kept c = kept_removed c.args.items.now c.remove.new.self _ c.requires.kept c.remove.ensures.entries c.remove.ensures.ordered

pub returns-in-Gone-clause-items : goal.returns-in-Gone-clause-items
returns-in-Gone-clause-items c = one_more c.args.items.now c.remove.new.self c.args.item.now None (gone_left c.args.item.now.value c.in-Gone.is) c.remove.ensures.updates.0 c.requires.item

-- the item in memory of its own
copy : (key : Key) (value : Value) (x : Item) → key ≡ x.key → value ≡ x.value → (let y : Item = record { key = key; value = value } in y) ≡ x
copy key value x k v = λ i. record { key = k i; value = v i }

pub returns-clause-kept : goal.returns-clause-kept
returns-clause-kept c =
    let x = c.args.item.now in
    let key = c.in_ok-clone.field-0 in
    let value = c.in_ok-clone-2.field-0 in
    let same = copy key value x c.in_ok-clone.ensures.cases c.in_ok-clone-2.ensures.cases in
    kept_inserted c.args.items.now c.insert.new.self key value c.requires.kept c.in_ok-insert.ensures.entries c.in_ok-insert.ensures.ordered
    (subst (λ y. IsNameItem (item_of y)) (sym same) c.requires.item)
    (subst (λ v. value_of v ≢ GoneValue) (sym c.in_ok-clone-2.ensures.cases) (alive x.value c.in_default.not-Gone).0)

pub returns-clause-items : goal.returns-clause-items
returns-clause-items c = λ q.
    let x = c.args.item.now in
    let y : Item = record { key = c.in_ok-clone.field-0; value = c.in_ok-clone-2.field-0 } in
    let same = copy y.key y.value x c.in_ok-clone.ensures.cases c.in_ok-clone-2.ensures.cases in
    one_more c.args.items.now c.insert.new.self y (Some y.value)
    (subst (λ v. Some (value_of v) ≡ left_by (value_of v)) (sym c.in_ok-clone-2.ensures.cases) (alive x.value c.in_default.not-Gone).1)
    c.in_ok-insert.ensures.updates.0 (subst (λ z. IsNameItem (item_of z)) (sym same) c.requires.item) q
    ∙ ap (λ z. after (value_in (items_in c.args.items.now.entries)) (item_of z ∷ []) q) same
