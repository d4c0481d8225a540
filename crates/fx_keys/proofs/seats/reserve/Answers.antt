use Rattle.std.proofs.Common.{cond, ne_eqb, refl, sym, ap, ◌∙◌, subst, Some, None}
use Rattle.std.proofs.lemmas.Result.{on_ok_weaker}
use Rattle.fx_keys.specs.declared.seats.Seat.{Seat}
use Rattle.fx_keys.specs.Holdings.{no_grants, roomier}
use Rattle.fx_keys.specs.Seats.{SeatIs, grants_of, seated}
use Rattle.fx_keys.proofs.SeatLists.{seat_missing, grants_found, grants_missing, seated_in_place, seated_new}
use Rattle.fx_keys.proofs.seats.reserve.Goals as goal

pub admit-requires : goal.admit-requires
admit-requires c =
    let seat : SeatIs c.args.seats.now.items c.args.who None = subst (λ l. SeatIs l c.args.who None) c.as_slice.ensures c.in-None.ensures in
    c.requires (seat_missing c.args.who c.args.seats.now.items seat)

pub returns-in-Some-clause-ok : goal.returns-in-Some-clause-ok
returns-in-Some-clause-ok c =
    let items = c.args.seats.now.items in
    let seat : SeatIs items c.args.who (Some c.in-Some.at) = subst (λ l. SeatIs l c.args.who (Some c.in-Some.at)) c.as_slice.ensures c.in-Some.ensures in
    let d : Seat = record { who = 0; holdings = no_grants } in
    on_ok_weaker c.reserve.result (λ became.
    seated_in_place c.reserve.new.self c.args.who items c.as_mut_slice.result.now c.in-Some.at _ c.index-as_mut_slice-at.result c.as_mut_slice.ensures.value refl seat
    ∙ ap (λ g. seated c.args.who g items) (became ∙ ap (roomier c.args.count) (grants_found c.args.who items c.as_mut_slice.result.now c.in-Some.at c.index-as_mut_slice-at.result c.as_mut_slice.ensures.value seat))
    ∙ sym (ap (λ b. cond b items (seated c.args.who (roomier c.args.count (grants_of items c.args.who)) items)) (ne_eqb c.args.count 0 c.if-count-eq0.false)))
    c.reserve.ensures.ok

pub returns-in-None-clause-ok : goal.returns-in-None-clause-ok
returns-in-None-clause-ok c =
    let items = c.args.seats.now.items in
    let seat : SeatIs items c.args.who None = subst (λ l. SeatIs l c.args.who None) c.as_slice.ensures c.in-None.ensures in
    on_ok_weaker c.admit.result (λ became.
    became ∙ sym (seated_new (roomier c.args.count no_grants) c.args.who items seat)
    ∙ ap (λ g. seated c.args.who (roomier c.args.count g) items) (sym (grants_missing c.args.who items seat))
    ∙ sym (ap (λ b. cond b items (seated c.args.who (roomier c.args.count (grants_of items c.args.who)) items)) (ne_eqb c.args.count 0 c.if-count-eq0.false)))
    c.admit.ensures.ok
