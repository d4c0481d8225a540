use Rattle.std.proofs.Common.{rules, ◌≡◌, ℕ, ◌+◌, [], ◌∷◌, take, true, false, Some, sym, ap, subst, ◌∙◌, arith}
use Rattle.std.specs.Prelude.{IsTrue}
use Rattle.std.specs.List.{slice_get}
use Rattle.std.proofs.lemmas.Option.{same_Some}
use Rattle.fx_item.specs.Item.{PlainItem, PlainKey, is_name_key, item_of, items_of}
use Rattle.fx_item.specs.Look.{after, value_in}
use Rattle.fx_sound.specs.Image.{points_in}
use Rattle.fx_audit.specs.Nodes.{AreSeen, is_seen}
use Rattle.fx_audit.proofs.Halves.{got_item}
use Rattle.fx_audit.proofs.Seen.{seen_name, seen_put, seen_skip}
use Rattle.fx_audit.proofs.nodes.names_of.Goals as goal
use Rattle.fx_audit.proofs.nodes.names_of.Goals.{then-is_seen+in_ok-put_at, else-is_seen}

pub put_at-requires-clause-seen : goal.put_at-requires-clause-seen
put_at-requires-clause-seen c = λ x e.
    let there : slice_get (items_of c.args.items.now) c.loop-at.at ≡ Some (item_of c.index-items-at.result) =
    got_item c.args.items.now c.loop-at.at c.index-items-at.result (search rules) ∙ ap (λ z. Some (item_of z)) (sym c.index-items-at.is) in
    let same : item_of c.index-items-at.result ≡ x = same_Some (item_of c.index-items-at.result) x (sym there ∙ e) in
    let seen : is_seen (points_in (items_of c.args.items.now)) (item_of c.index-items-at.result).key ≡ true = search rules in
    subst (λ (z : PlainItem). IsTrue (is_name_key z.key)) same (seen_name (points_in (items_of c.args.items.now)) (item_of c.index-items-at.result).key seen)

pub loop-at-preserved : goal.loop-at-preserved
loop-at-preserved c =
    let items = items_of c.args.items.now in
    let x = item_of c.index-items-at.result in
    let there : slice_get (items_of c.args.items.now) c.loop-at.at ≡ Some x =
    got_item c.args.items.now c.loop-at.at c.index-items-at.result (search rules) ∙ ap (λ z. Some (item_of z)) (sym c.index-items-at.is) in
    elim c.if-is_seen.branch [
      | then-is_seen+in_ok-put_at w ↦
          let seen : is_seen (points_in items) x.key ≡ true = search rules in
          seen_put items c.requires c.loop-at.at x there (value_in c.loop-at.table.items) c.loop-at.invariant (value_in c.if-is_seen.table.items) seen
          (subst (λ t. (key : PlainKey) → value_in t.items key ≡ after (value_in c.loop-at.table.items) (x ∷ []) key) (sym w.table-is) (w.in_ok-put_at.ensures x there))
      | else-is_seen w ↦
          let unseen : is_seen (points_in items) x.key ≡ false = search rules in
          subst (λ t. AreSeen (points_in items) (take (c.loop-at.at + 1) items) (value_in t.items)) (sym w.table-is) (seen_skip items c.requires c.loop-at.at x there (value_in c.loop-at.table.items) c.loop-at.invariant unseen)
    ]
