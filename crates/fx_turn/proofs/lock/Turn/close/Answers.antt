use Rattle.std.proofs.Common.{rules, ◌∙◌, ◌≡◌, ◌<◌, false}
use Rattle.fx_turn.proofs.Ends.{closes}
use Rattle.fx_turn.proofs.lock.Turn.close.Goals as goal

pub unwrap-requires : goal.unwrap-requires
unwrap-requires g c = let v = c.into_seat-seat.result.me.0 in let idle : v.holds ≡ false = search rules in let some_share : 0 < v.shares = search rules in
    let whole : v.shares ≡ c.self.inside.table.shared.key.shares = search rules in
    (closes g.T.Growing.log g.T.Growing.counts g.T.Growing.parts _ _ _ _ _ _ idle whole some_share c.close_with-closed.ensures.values.2 c.take-value.ensures.value).0

pub returns : goal.returns
returns g c = let v = c.into_seat-seat.result.me.0 in let idle : v.holds ≡ false = search rules in let some_share : 0 < v.shares = search rules in
    let whole : v.shares ≡ c.self.inside.table.shared.key.shares = search rules in
    let t = (closes g.T.Growing.log g.T.Growing.counts g.T.Growing.parts _ _ _ _ _ _ idle whole some_share c.close_with-closed.ensures.values.2 c.take-value.ensures.value).1 _ c.unwrap.ensures in
    let seen : v.seen ≡ c.args.pass.seen = search rules in let own : v.own ≡ c.args.pass.own = search rules in let mine : v.mine ≡ c.args.pass.mine = search rules in
    record { seen = t.0 ∙ seen; own = t.1 ∙ own; mine = t.2 ∙ mine }
