use Rattle.std.proofs.Common.{◌≡◌, ◌<◌, ℕ, Some, refl, sym, ap, subst, ◌∙◌, arith, length}
use Rattle.std.specs.List.{slice_get}
use Rattle.std.proofs.lemmas.Option.{slice_get_within}
use Rattle.fx_item.specs.Item.{PlainItem, item_of, items_of, key_of}
use Rattle.fx_item.specs.Place.{begins, bound_of, Below}
use Rattle.fx_item.proofs.PlaceOrder.{tested_above, tested_upto}
use Rattle.fx_audit.proofs.Halves.{found_there, got, got_item, none_there}
use Rattle.fx_audit.proofs.search.value_at.Goals as goal

pub returns-in_default : goal.returns-in_default
returns-in_default c = none_there (items_of c.args.items.now) c.requires.standing (key_of c.args.key.now) c.requires.point c.passed.result (bound_of c.begins-place.result) c.begins-place.ensures c.passed.ensures.before
    (λ x e. let g = got c.args.items.now c.passed.result x e in absurd (omega (arith, g.within, c.in_default.ensures.lookup.3)))

pub returns-then-is_le : goal.returns-then-is_le
returns-then-is_le c =
    let item = c.in-Some.item.now in
    let there : slice_get (items_of c.args.items.now) c.passed.result ≡ Some (item_of item) =
    got_item c.args.items.now c.passed.result item c.in-Some.ensures.lookup.3.0 ∙ ap (λ z. Some (item_of z)) (sym c.in-Some.ensures.lookup.1) in
    found_there (items_of c.args.items.now) c.requires.standing (key_of c.args.key.now) c.requires.point c.passed.result (item_of item) (bound_of c.begins-place.result) c.begins-place.ensures there
    (c.passed.ensures.behind c.passed.result (item_of item) (omega arith) there)
    (tested_upto (begins (key_of item.key)) (bound_of c.begins-place.result) _ _ _ _ c.if-is_le.true c.is_le.ensures c.compare.ensures c.begins.ensures refl)

pub returns : goal.returns
returns c =
    let item = c.in-Some.item.now in
    let there : slice_get (items_of c.args.items.now) c.passed.result ≡ Some (item_of item) =
    got_item c.args.items.now c.passed.result item c.in-Some.ensures.lookup.3.0 ∙ ap (λ z. Some (item_of z)) (sym c.in-Some.ensures.lookup.1) in
    none_there (items_of c.args.items.now) c.requires.standing (key_of c.args.key.now) c.requires.point c.passed.result (bound_of c.begins-place.result) c.begins-place.ensures c.passed.ensures.before
    (λ x e.
    let same : Some (item_of item) ≡ Some x = sym there ∙ e in
    let is : item_of item ≡ x = cc in
    subst (λ (z : PlainItem). Below (bound_of c.begins-place.result) (begins z.key)) is
    (tested_above (begins (key_of item.key)) (bound_of c.begins-place.result) _ _ _ _ c.if-is_le.false c.is_le.ensures c.compare.ensures c.begins.ensures refl))
