use Rattle.std.proofs.Common.{◌≡◌, ℕ, ◌+◌, ◌-◌, Some, ◌<◌, sym, ap, subst, ◌∙◌, arith, length, take, drop}
use Rattle.std.specs.Prelude.{All, OnOk, Ok, Err}
use Rattle.std.specs.List.{slice_get}
use Rattle.std.proofs.lemmas.List.{length-map}
use Rattle.fx_item.specs.Item.{IsNameItem, PlainItem, PlainKey, item_of, items_of}
use Rattle.fx_item.specs.Look.{after, value_in}
use Rattle.fx_nodes.proofs.Tree.{in_at}
use Rattle.fx_audit.proofs.Seen.{on_ok, one_name, one_taken, some_at}
use Rattle.fx_audit.proofs.nodes.put_at.Goals as goal

pub put-requires-clause-each : goal.put-requires-clause-each
put-requires-clause-each c =
    let xs = c.args.items.now in
    let i = c.args.at in
    let x = some_at (items_of xs) i (omega (arith, c.requires.within, length-map xs item_of)) in
    let each : All IsNameItem (items_of (take (i + 1 - i) (drop i xs))) = subst (All IsNameItem) (sym (one_taken xs i x.0 x.1)) (one_name (items_of xs) c.requires.standing x.0 (in_at (items_of xs) i x.0 x.1) (c.requires.seen x.0 x.1)) in
    each

pub returns : goal.returns
returns c = on_ok c.put.result (λ h x e key. h key ∙ ap (λ ys. after (value_in c.args.table.now.items) ys key) (one_taken c.args.items.now c.args.at x e)) c.put.ensures.items
