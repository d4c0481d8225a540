use Rattle.std.proofs.Common.{rules, arith, ◌<◌, ◌≤◌, ◌-◌, ap, sym, ◌∙◌, subst}
use Rattle.fx_turn.proofs.lock.Turn.split.Goals as goal

pub into_seat-seat-requires : goal.into_seat-seat-requires
into_seat-seat-requires g c = let t = c.pass.invariant in (t.0, ap (λ b. b.views) c.replace-badge.ensures.value ∙ t.1)

pub invariant_of-pass : goal.invariant_of-pass
invariant_of-pass g c = let e = c.cut-other.ensures.rest.1 in let two : 2 ≤ c.into_seat-seat.result.me.0.shares = search rules in let one : 0 < c.into_seat-seat.result.me.0.shares - 1 = omega arith in
    (c.cut-other.new.seat.me.0, c.into_badge.ensures.2, ap (λ m. m.0.holds) e, subst (λ m. 0 < m.0.shares) (sym e) one)

pub invariant_of-result : goal.invariant_of-result
invariant_of-result g c = let e = c.cut-other.ensures.new.1 in (c.cut-other.result.me.0, c.into_badge-2.ensures.2, ap (λ m. m.0.holds) e, subst (λ m. 0 < m.0.shares) (sym e) (search rules))
