use Rattle.std.proofs.Common.{rules, ◌≡◌, true, subst, option_map}
use Rattle.fx_item.specs.Item.{item_of, key_of}
use Rattle.fx_item.specs.Place.{begins}
use Rattle.fx_item.specs.Look.{FindsLive, is_point_key}
use Rattle.fx_item.proofs.PlaceOrder.{tested_above, tested_upto}
use Rattle.fx_item.proofs.Keys.{look_here, look_later, look_none}
use Rattle.fx_item.proofs.look.Look.get.Goals as goal

pub returns-in_default-clause-found : goal.returns-in_default-clause-found
returns-in_default-clause-found g c =
    let point : is_point_key (key_of c.args.key.now) ≡ true = search rules in
    look_none (key_of c.args.key.now) point (g.Self.Look.said c.args.self.now)
    (subst (λ o. FindsLive (g.Self.Look.said c.args.self.now) (begins (key_of c.args.key.now)) (option_map item_of o)) c.in_default.is c.in-Ok.ensures.found)

pub returns-then-is_le-clause-found : goal.returns-then-is_le-clause-found
returns-then-is_le-clause-found g c =
    let point : is_point_key (key_of c.args.key.now) ≡ true = search rules in
    look_here (key_of c.args.key.now) point (g.Self.Look.said c.args.self.now) (item_of c.in-Some.item)
    (subst (λ o. FindsLive (g.Self.Look.said c.args.self.now) (begins (key_of c.args.key.now)) (option_map item_of o)) c.in-Some.is c.in-Ok.ensures.found)
    (tested_upto (begins (key_of c.in-Some.item.key)) (begins (key_of c.args.key.now)) _ _ _ _ c.if-is_le.true c.is_le.ensures c.compare.ensures c.begins.ensures c.begins-2.ensures)

pub returns-clause-found : goal.returns-clause-found
returns-clause-found g c =
    let point : is_point_key (key_of c.args.key.now) ≡ true = search rules in
    look_later (key_of c.args.key.now) point (g.Self.Look.said c.args.self.now) (item_of c.in-Some.item)
    (subst (λ o. FindsLive (g.Self.Look.said c.args.self.now) (begins (key_of c.args.key.now)) (option_map item_of o)) c.in-Some.is c.in-Ok.ensures.found)
    (tested_above (begins (key_of c.in-Some.item.key)) (begins (key_of c.args.key.now)) _ _ _ _ c.if-is_le.false c.is_le.ensures c.compare.ensures c.begins.ensures c.begins-2.ensures)
