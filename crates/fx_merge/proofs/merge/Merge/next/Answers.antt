use Rattle.std.proofs.Common.{rules, ◌≡◌, Some, sym, subst}
use Rattle.std.specs.Prelude.{option_map}
use Rattle.fx_item.specs.Item.{IsItem, item_of, key_of, GoneValue}
use Rattle.fx_item.specs.Place.{ends}
use Rattle.fx_item.specs.Look.{IsFirstFrom}
use Rattle.fx_merge.specs.Cursor.{AllHold, FindsIn, level_lists, says_all}
use Rattle.fx_merge.specs.Merge.{MergeState, place_now}
use Rattle.fx_item.proofs.PlaceOrder.{below_upto}
use Rattle.fx_merge.proofs.Onward.{gone_good, later_all, trimmed_first}
use Rattle.fx_merge.proofs.merge.Merge.next.Goals as goal

pub first-requires : goal.first-requires
first-requires g c = subst (λ q. AllHold (λ l. g.L.Level.items l.now) q c.self.inside.cursor) (sym c.go_on-edge.ensures) c.self.invariant.0

pub invariant_of-self : goal.invariant_of-self
invariant_of-self g c = (subst (λ q. AllHold (λ l. g.L.Level.items l.now) q c.first.new.cursor) c.go_on-edge.ensures c.in-Err.ensures.holds, c.self.invariant.1)

pub invariant_of-self-in_default : goal.invariant_of-self-in_default
invariant_of-self-in_default g c = (subst (λ q. AllHold (λ l. g.L.Level.items l.now) q c.first.new.cursor) c.go_on-edge.ensures c.in-Ok.ensures.holds, c.self.invariant.1)

pub invariant_of-self-in-Err-behind_last : goal.invariant_of-self-in-Err-behind_last
invariant_of-self-in-Err-behind_last g c = (subst (λ q. AllHold (λ l. g.L.Level.items l.now) q c.first.new.cursor) c.go_on-edge.ensures c.in-Ok.ensures.holds, c.self.invariant.1)

pub invariant_of-self-in_default-clone : goal.invariant_of-self-in_default-clone
invariant_of-self-in_default-clone g c = (subst (λ q. AllHold (λ l. g.L.Level.items l.now) q c.first.new.cursor) c.go_on-edge.ensures c.in-Ok.ensures.holds, c.self.invariant.1)

pub invariant_of-self-2 : goal.invariant_of-self-2
invariant_of-self-2 g c =
    let place = place_now (key_of c.self.inside.from) (option_map item_of c.self.inside.last) in
    let lists = level_lists (λ l. g.L.Level.items l.now) c.self.inside.cursor in
    let found : FindsIn lists place (Some (item_of c.in-Some.item)) = subst (λ o. FindsIn lists place (option_map item_of o)) c.in-Some.is
    (subst (λ q. FindsIn lists q (option_map item_of c.in-Ok.found)) c.go_on-edge.ensures c.in-Ok.ensures.found) in
    let given : IsFirstFrom (says_all lists) place (item_of c.in-Ok-behind_last.item) = trimmed_first (says_all lists) (key_of c.self.inside.from) (option_map item_of c.self.inside.last) (item_of c.in-Some.item) (item_of c.in-Ok-behind_last.item) c.in-Ok-behind_last.ensures found.finds in
    let same : key_of c.in-Ok-clone.key ≡ key_of c.in-Ok-behind_last.item.key = search rules in
    let held : AllHold (λ l. g.L.Level.items l.now) place c.first.new.cursor = subst (λ q. AllHold (λ l. g.L.Level.items l.now) q c.first.new.cursor) c.go_on-edge.ensures c.in-Ok.ensures.holds in (
      subst (λ k. AllHold (λ l. g.L.Level.items l.now) (ends k) c.first.new.cursor) (sym same)
          (later_all (λ l. g.L.Level.items l.now) place (ends (key_of c.in-Ok-behind_last.item.key)) c.first.new.cursor (below_upto given.reaches) held),
      subst (λ k. IsItem (record { key = k; value = GoneValue })) (sym same) (gone_good (key_of c.in-Ok-behind_last.item.key) given.good.key),
    )

pub returns-clause-found : goal.returns-clause-found
returns-clause-found g c =
    let place = place_now (key_of c.self.inside.from) (option_map item_of c.self.inside.last) in
    let lists = level_lists (λ l. g.L.Level.items l.now) c.self.inside.cursor in
    let found : FindsIn lists place (Some (item_of c.in-Some.item)) = subst (λ o. FindsIn lists place (option_map item_of o)) c.in-Some.is
    (subst (λ q. FindsIn lists q (option_map item_of c.in-Ok.found)) c.go_on-edge.ensures c.in-Ok.ensures.found) in
    subst (λ (s : MergeState). IsFirstFrom (says_all s.levels) s.place (item_of c.in-Ok-behind_last.item)) c.self.view_is
    (trimmed_first (says_all lists) (key_of c.self.inside.from) (option_map item_of c.self.inside.last) (item_of c.in-Some.item) (item_of c.in-Ok-behind_last.item) c.in-Ok-behind_last.ensures found.finds)
