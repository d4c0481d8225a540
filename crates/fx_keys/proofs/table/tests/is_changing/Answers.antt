use Rattle.std.proofs.Common.{◌≡◌, ap, refl, sym, ◌∙◌, Some}
use Rattle.fx_item.specs.declared.lock.Mode.TheVariants.{Change}
use Rattle.fx_keys.specs.Holdings.{Grants, mode_in}
use Rattle.fx_keys.proofs.SeatLists.{grants_found}
use Rattle.fx_keys.proofs.table.tests.is_changing.Goals as goal

pub returns-in-Some-Change : goal.returns-in-Some-Change
returns-in-Some-Change c = λ _.
    ap (λ (g : Grants). mode_in g.holds c.args.key) (sym (grants_found c.args.who c.args.seats.now c.args.seats.now c.in-Some.at c.index-seats-at.result refl c.in-Some.ensures))
    ∙ sym c.mode.ensures ∙ c.in-Some-Change.is ∙ ap Some c.in-Some-Change.field-0-is
