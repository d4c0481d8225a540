use Rattle.std.proofs.Common.{rules, arith, ◌<◌, ◌+◌, ap, sym, ◌∙◌, subst}
use Rattle.fx_turn.proofs.Joins.{joins_keep}
use Rattle.fx_turn.proofs.Takes.{agrees_keeps}
use Rattle.fx_turn.proofs.lock.Turn.join.Goals as goal

pub join_seat-requires : goal.join_seat-requires
join_seat-requires g c = (search rules, search rules, search rules, search rules, joins_keep g.T.Growing.log g.T.Growing.counts g.T.Growing.parts _ _ _ _ _ (search rules) (search rules) (search rules))

pub load-requires : goal.load-requires
load-requires g c = (search rules, search rules, agrees_keeps g.T.Growing.log g.T.Growing.counts g.T.Growing.parts _ _ _ _)

pub invariant_of-result : goal.invariant_of-result
invariant_of-result g c = let e = c.load.ensures.2.0 ∙ c.join_seat.ensures.2 in let p : 0 < c.into_seat-seat.result.me.0.shares = search rules in
    let q : 0 < c.into_seat-seat.result.me.0.shares + c.into_seat-other.result.me.0.shares = omega arith in
    (c.load.new.seat.me.0, c.into_badge.ensures.2, ap (λ m. m.0.holds) e, subst (λ m. 0 < m.0.shares) (sym e) q)
