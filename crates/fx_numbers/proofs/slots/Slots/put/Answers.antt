use Rattle.std.proofs.Common.{◌+◌, ◌≤◌, None, Some, length, ap, sym, subst, ◌∙◌, arith}
use Rattle.std.specs.FinMap as finite
use Rattle.fx_numbers.specs.Slots.{PartMap, promised_by}
use Rattle.fx_numbers.proofs.PartLists.{promised_set, put_map, slot_of_none}
use Rattle.fx_numbers.proofs.slots.Slots.put.Goals as goal

pub returns-clause-parts : goal.returns-clause-parts
returns-clause-parts c =
    let place = subst (λ (v : PartMap). c.args.who ≤ v.places) (sym c.self.view_is) c.requires.place in
    let within : c.args.who ≤ length c.self.inside.slots.items = omega (arith, place, c.self.inside.slots.ok) in
    put_map c.self.inside.slots.items c.args.who c.args.part c.requires.number.0 within
    ∙ ap (λ (v : PartMap). finite.insert v.parts c.args.who c.args.part) c.self.view_is

pub returns-clause-reserved : goal.returns-clause-reserved
returns-clause-reserved c =
    let place = subst (λ (v : PartMap). c.args.who ≤ v.places) (sym c.self.view_is) c.requires.place in
    let within : c.args.who ≤ length c.self.inside.slots.items = omega (arith, place, c.self.inside.slots.ok) in
    let free = ap (λ (v : PartMap). finite.get v.parts c.args.who) c.self.view_is ∙ c.requires.free in
    let h = promised_set c.self.inside.slots.items c.args.who None (Some c.args.part) c.requires.number.0 within (slot_of_none c.self.inside.slots.items c.args.who c.requires.number.0 free) in
    omega (arith, h) ∙ ap (λ (v : PartMap). v.reserved + promised_by c.args.part) c.self.view_is
