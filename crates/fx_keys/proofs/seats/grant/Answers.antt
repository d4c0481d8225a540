use Rattle.std.proofs.Common.{◌<◌, ◌≡◌, All, Less, refl, sym, ap, ◌∙◌, subst, arith, Some, None}
use Rattle.fx_item.specs.LockKey.{key_cmp}
use Rattle.fx_keys.specs.Holdings.{Grants, granted}
use Rattle.fx_keys.specs.Seats.{SeatIs, seated}
use Rattle.fx_keys.proofs.SeatLists.{grants_found, grants_missing, seated_in_place}
use Rattle.fx_keys.proofs.seats.grant.Goals as goal

pub grant-requires-clause-place : goal.grant-requires-clause-place
grant-requires-clause-place c =
    let items = c.args.seats.now.items in
    let seat : SeatIs items c.args.who (Some c.in-Some.at) = subst (λ l. SeatIs l c.args.who (Some c.in-Some.at)) c.as_slice.ensures c.in-Some.ensures in
    subst (λ (g : Grants). 0 < g.places) (sym (grants_found c.args.who items c.as_mut_slice.result.now c.in-Some.at c.index-as_mut_slice-at.result c.as_mut_slice.ensures.value seat)) c.requires.place

pub grant-requires-clause-above : goal.grant-requires-clause-above
grant-requires-clause-above c =
    let items = c.args.seats.now.items in
    let seat : SeatIs items c.args.who (Some c.in-Some.at) = subst (λ l. SeatIs l c.args.who (Some c.in-Some.at)) c.as_slice.ensures c.in-Some.ensures in
    subst (λ (g : Grants). All (λ h. key_cmp h.key c.args.key ≡ Less) g.holds) (sym (grants_found c.args.who items c.as_mut_slice.result.now c.in-Some.at c.index-as_mut_slice-at.result c.as_mut_slice.ensures.value seat)) c.requires.above

pub returns-in-Some-clause-items : goal.returns-in-Some-clause-items
returns-in-Some-clause-items c =
    let items = c.args.seats.now.items in
    let seat : SeatIs items c.args.who (Some c.in-Some.at) = subst (λ l. SeatIs l c.args.who (Some c.in-Some.at)) c.as_slice.ensures c.in-Some.ensures in
    seated_in_place c.grant.new.self c.args.who items c.as_mut_slice.result.now c.in-Some.at _ c.index-as_mut_slice-at.result c.as_mut_slice.ensures.value refl seat
    ∙ ap (λ g. seated c.args.who g items) (c.grant.ensures ∙ ap (granted c.args.key c.args.mode) (grants_found c.args.who items c.as_mut_slice.result.now c.in-Some.at c.index-as_mut_slice-at.result c.as_mut_slice.ensures.value seat))

pub returns-in_default-clause-items : goal.returns-in_default-clause-items
returns-in_default-clause-items c =
    let seat : SeatIs c.args.seats.now.items c.args.who None = subst (λ l. SeatIs l c.args.who None) c.as_slice.ensures c.in_default.ensures in
    let none : 0 < 0 = subst (λ (g : Grants). 0 < g.places) (grants_missing c.args.who c.args.seats.now.items seat) c.requires.place in
    absurd (omega arith)
