use Rattle.std.proofs.Common.{ap, sym, ◌∙◌, refl, Some, None}
use Rattle.fx_keys.specs.Holdings.{Grants}
use Rattle.fx_keys.proofs.SeatLists.{grants_found, grants_missing}
use Rattle.fx_keys.proofs.table.tests.places.Goals as goal

pub returns-in-Some : goal.returns-in-Some
returns-in-Some c =
    c.places.ensures
    ∙ ap (λ (g : Grants). g.places) (grants_found c.args.who c.args.seats.now c.args.seats.now c.in-Some.at c.index-seats-at.result refl c.in-Some.ensures)

pub returns-in-None : goal.returns-in-None
returns-in-None c = ap (λ (g : Grants). g.places) (sym (grants_missing c.args.who c.args.seats.now c.in-None.ensures))
