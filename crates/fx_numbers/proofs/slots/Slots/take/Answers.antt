use Rattle.std.proofs.Common.{◌≡◌, ◌-◌, Option, None, Some, set, ap, sym, ◌∙◌, arith}
use Rattle.std.specs.FinMap as finite
use Rattle.fx_parts.specs.Parts.{Part}
use Rattle.fx_numbers.specs.Slots.{PartMap, parts_in, promised_by, promised_in}
use Rattle.fx_numbers.proofs.PartLists.{at_place, placed, promised_set, slot_of_some, take_map}
use Rattle.fx_numbers.proofs.slots.Slots.take.Goals as goal

some_same : (a b : Part) → Some a ≡ Some b → a ≡ b
some_same a b e = cc

no_part : (a : Part) → None ≡ Some a → ⊥
no_part a e = cc

pub index_mut-requires : goal.index_mut-requires
index_mut-requires c = let p = (placed c.self.inside.slots.items c.args.who c.requires.0 (ap (λ (v : PartMap). finite.get v.parts c.args.who) c.self.view_is ∙ c.requires.1)) in let a = p.first in let b = p.within in omega (arith, a, b, c.self.inside.slots.ok)

pub unreachable-requires : goal.unreachable-requires
unreachable-requires c = no_part c.requires.0 (sym c.in-None.is ∙ c.take.ensures.value ∙ c.index_mut.ensures.value ∙ (at_place c.self.inside.slots.items c.args.who c.requires.0 c.index_mut.result.now (ap (λ (v : PartMap). finite.get v.parts c.args.who) c.self.view_is ∙ c.requires.1)))

pub returns-clause-part : goal.returns-clause-part
returns-clause-part c = c.requires.1 ∙ ap Some (sym (some_same c.in-Some.part c.requires.0 (sym c.in-Some.is ∙ c.take.ensures.value ∙ c.index_mut.ensures.value ∙ (at_place c.self.inside.slots.items c.args.who c.requires.0 c.index_mut.result.now (ap (λ (v : PartMap). finite.get v.parts c.args.who) c.self.view_is ∙ c.requires.1)))))

pub returns-clause-parts : goal.returns-clause-parts
returns-clause-parts c =
    let p = (placed c.self.inside.slots.items c.args.who c.requires.0 (ap (λ (v : PartMap). finite.get v.parts c.args.who) c.self.view_is ∙ c.requires.1)) in
    ap (λ (y : Option Part). parts_in (set c.self.inside.slots.items (c.args.who - 1) y)) c.take.ensures.after
    ∙ take_map c.self.inside.slots.items c.args.who p.first p.within
    ∙ ap (λ (v : PartMap). finite.remove v.parts c.args.who) c.self.view_is

pub returns-clause-reserved : goal.returns-clause-reserved
returns-clause-reserved c =
    let p = (placed c.self.inside.slots.items c.args.who c.requires.0 (ap (λ (v : PartMap). finite.get v.parts c.args.who) c.self.view_is ∙ c.requires.1)) in
    let h = promised_set c.self.inside.slots.items c.args.who (Some c.requires.0) None p.first p.within (slot_of_some c.self.inside.slots.items c.args.who c.requires.0 p.first (ap (λ (v : PartMap). finite.get v.parts c.args.who) c.self.view_is ∙ c.requires.1)) in
    let gone = ap (λ (y : Option Part). promised_in (set c.self.inside.slots.items (c.args.who - 1) y)) c.take.ensures.after in
    let same = ap promised_by (some_same c.in-Some.part c.requires.0 (sym c.in-Some.is ∙ c.take.ensures.value ∙ c.index_mut.ensures.value ∙ (at_place c.self.inside.slots.items c.args.who c.requires.0 c.index_mut.result.now (ap (λ (v : PartMap). finite.get v.parts c.args.who) c.self.view_is ∙ c.requires.1)))) in
    let was = ap (λ (v : PartMap). v.reserved) c.self.view_is in
    omega (arith, h, gone, same, was)

pub returns-clause-number : goal.returns-clause-number
returns-clause-number c = let p = (placed c.self.inside.slots.items c.args.who c.requires.0 (ap (λ (v : PartMap). finite.get v.parts c.args.who) c.self.view_is ∙ c.requires.1)) in let a = p.first in let b = p.within in (a, omega (arith, a, b, c.self.invariant, c.self.inside.slots.ok))

pub returns-clause-place : goal.returns-clause-place
returns-clause-place c = let p = (placed c.self.inside.slots.items c.args.who c.requires.0 (ap (λ (v : PartMap). finite.get v.parts c.args.who) c.self.view_is ∙ c.requires.1)) in let b = p.within in let was = ap (λ (v : PartMap). v.places) c.self.view_is in omega (arith, b, was, c.self.inside.slots.ok)

pub overflow_sub-who : goal.overflow_sub-who
overflow_sub-who c = (placed c.self.inside.slots.items c.args.who c.requires.0 (ap (λ (v : PartMap). finite.get v.parts c.args.who) c.self.view_is ∙ c.requires.1)).first
