use Rattle.std.proofs.Common.{◌≡◌, ◌-◌, IsNone, refl, sym, subst}
use Rattle.std.specs.VecDeque.{deque_len, deque_capacity}
use Rattle.fx_alloc.specs.Space.{Space, holder_at, CanReserve}
use Rattle.fx_alloc.proofs.SpaceKept.{IsSpace-reserved, seat_facts, holder_read}
use Rattle.fx_alloc.proofs.space.Space.reserve.Goals as goal

pub invariant_of-self : goal.invariant_of-self
invariant_of-self c =
    let f = seat_facts _ _ _ _ _ c.as_slice.ensures.value c.find_seat.ensures c.in-Some-find_seat.is c.self.invariant.0.seats.seats in
    let read : c.index.result.now ≡ holder_at c.self.inside.holders.items c.in-Some-find_seat.seat = holder_read _ _ _ c.index.ensures f.1 c.self.invariant.0.seats.seats in
    let can : CanReserve c.args.self.now c.args.need = c.find_short.ensures.none.0 (subst (λ o. IsNone o) (sym c.in_default.is) refl) in
    rw (c.with_need-holder.ensures, read, c.from.ensures)
    (IsSpace-reserved _ _ (deque_capacity c.self.inside.waiting - deque_len c.self.inside.waiting) c.in-Some-find_seat.seat c.args.need c.self.inside.pins c.self.invariant.0 f.1 f.2 (subst (λ (s : Space). CanReserve s c.args.need) (sym c.self.view_is) can), c.self.invariant.1)
