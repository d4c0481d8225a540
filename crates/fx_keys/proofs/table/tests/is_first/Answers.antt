use Rattle.std.proofs.Common.{◌≢◌, All, Less, refl, sym, subst, Some, None}
use Rattle.std.proofs.lemmas.List.Elements.{All-nil}
use Rattle.fx_item.specs.LockKey.{key_cmp}
use Rattle.fx_keys.specs.Holdings.{Grants}
use Rattle.fx_keys.proofs.SeatLists.{grants_found, grants_missing}
use Rattle.fx_keys.proofs.table.tests.is_first.Goals as goal

pub returns-in-Some : goal.returns-in-Some
returns-in-Some c = λ t.
    subst (λ (g : Grants). All (λ h. key_cmp h.key c.args.key ≢ Less) g.holds)
    (grants_found c.args.who c.args.seats.now c.args.seats.now c.in-Some.at c.index-seats-at.result refl c.in-Some.ensures)
    (c.are_from.ensures t)

pub returns-in-None : goal.returns-in-None
returns-in-None c = λ _.
    subst (λ (g : Grants). All (λ h. key_cmp h.key c.args.key ≢ Less) g.holds) (sym (grants_missing c.args.who c.args.seats.now c.in-None.ensures)) (All-nil (λ h. key_cmp h.key c.args.key ≢ Less))
