use Rattle.std.proofs.Common.{◌≡◌, refl, sym, subst, Some, None}
use Rattle.fx_item.specs.declared.lock.Mode.TheVariants.{Change}
use Rattle.fx_keys.specs.Holdings.{Grants, mode_in, IsRaised}
use Rattle.fx_keys.specs.Seats.{SeatIs}
use Rattle.fx_keys.proofs.HoldArrays.{some_none}
use Rattle.fx_keys.proofs.SeatLists.{grants_found, grants_missing, seated_in_place}
use Rattle.fx_keys.proofs.seats.raise.Goals as goal

pub raise-requires : goal.raise-requires
raise-requires c =
    let items = c.args.seats.now.items in
    let seat : SeatIs items c.args.who (Some c.in-Some.at) = subst (λ l. SeatIs l c.args.who (Some c.in-Some.at)) c.as_slice.ensures c.in-Some.ensures in
    subst (λ (g : Grants). mode_in g.holds c.args.key ≡ Some Change) (sym (grants_found c.args.who items c.as_mut_slice.result.now c.in-Some.at c.index-as_mut_slice-at.result c.as_mut_slice.ensures.value seat)) c.requires

pub returns-in-Some-clause-items : goal.returns-in-Some-clause-items
returns-in-Some-clause-items c =
    let items = c.args.seats.now.items in
    let seat : SeatIs items c.args.who (Some c.in-Some.at) = subst (λ l. SeatIs l c.args.who (Some c.in-Some.at)) c.as_slice.ensures c.in-Some.ensures in
    record {
      grants = c.raise.new.self;
      raised = subst (λ g. IsRaised g c.args.key c.raise.new.self) (grants_found c.args.who items c.as_mut_slice.result.now c.in-Some.at c.index-as_mut_slice-at.result c.as_mut_slice.ensures.value seat) c.raise.ensures;
      seats = seated_in_place c.raise.new.self c.args.who items c.as_mut_slice.result.now c.in-Some.at _ c.index-as_mut_slice-at.result c.as_mut_slice.ensures.value refl seat;
    }

pub returns-in_default-clause-items : goal.returns-in_default-clause-items
returns-in_default-clause-items c =
    let seat : SeatIs c.args.seats.now.items c.args.who None = subst (λ l. SeatIs l c.args.who None) c.as_slice.ensures c.in_default.ensures in
    absurd (some_none Change (sym (subst (λ (g : Grants). mode_in g.holds c.args.key ≡ Some Change) (grants_missing c.args.who c.args.seats.now.items seat) c.requires)))
