use Rattle.std.proofs.Common.{◌≡◌, List, None, Some, refl, subst, sym, ◌∙◌}
use Rattle.fx_alloc.specs.declared.holders.Holder.{Holder}
use Rattle.fx_alloc.specs.Holders.{held_seat, vacant_seat}
use Rattle.fx_alloc.proofs.SpaceKept.{IsSpace-seat_given, seat_given-has, vacant_found}
use Rattle.fx_alloc.proofs.space.Space.slot.Goals as goal

pub invariant_of-self : goal.invariant_of-self
invariant_of-self c = (
  IsSpace-seat_given c.args.who c.in-Some-find_vacant.seat c.self.invariant.0
      (subst (λ (l : List Holder). held_seat l c.args.who ≡ None) c.as_slice.ensures.value (sym c.find_seat.ensures ∙ c.in-None.is))
      (subst (λ (l : List Holder). vacant_seat l ≡ Some c.in-Some-find_vacant.seat) c.as_slice-in-None.ensures.value (sym c.find_vacant.ensures ∙ c.in-Some-find_vacant.is)),
  c.self.invariant.1,
)

pub returns-in-Some-find_vacant-clause-seat_given : goal.returns-in-Some-find_vacant-clause-seat_given
returns-in-Some-find_vacant-clause-seat_given c =
    let none : held_seat c.self.inside.holders.items c.args.who ≡ None = subst (λ (l : List Holder). held_seat l c.args.who ≡ None) c.as_slice.ensures.value (sym c.find_seat.ensures ∙ c.in-None.is) in
    let some : vacant_seat c.self.inside.holders.items ≡ Some c.in-Some-find_vacant.seat = subst (λ (l : List Holder). vacant_seat l ≡ Some c.in-Some-find_vacant.seat) c.as_slice-in-None.ensures.value (sym c.find_vacant.ensures ∙ c.in-Some-find_vacant.is) in
    rw (← c.self.view_is, none, some) refl

pub returns-in-Some-find_vacant-clause-seat : goal.returns-in-Some-find_vacant-clause-seat
returns-in-Some-find_vacant-clause-seat c =
    let some : vacant_seat c.self.inside.holders.items ≡ Some c.in-Some-find_vacant.seat = subst (λ (l : List Holder). vacant_seat l ≡ Some c.in-Some-find_vacant.seat) c.as_slice-in-None.ensures.value (sym c.find_vacant.ensures ∙ c.in-Some-find_vacant.is) in
    seat_given-has c.self.inside.holders.items c.args.who c.in-Some-find_vacant.seat (vacant_found c.self.inside.holders.items c.in-Some-find_vacant.seat some)
