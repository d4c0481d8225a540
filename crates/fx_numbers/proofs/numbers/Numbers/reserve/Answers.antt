use Rattle.std.proofs.Common.{◌+◌, refl, sym, ap, ◌∙◌}
use Rattle.fx_parts.specs.Parts.{Part}
use Rattle.fx_numbers.specs.State.{NumbersState}
use Rattle.fx_numbers.proofs.Changing.{is_gone, known_part, part_in, swapped}
use Rattle.fx_numbers.specs.State.{reserved_next}
use Rattle.fx_numbers.proofs.Reserving.{reserve_numbers, reserve_step}
use Rattle.fx_numbers.proofs.numbers.Numbers.reserve.Goals as goal

pub take-part-requires : goal.take-part-requires
take-part-requires c = (c.requires.part.0, part_in c.self.inside c.args.self.now c.self.view_is c.args.who c.requires.part.0 c.requires.part.1)

pub put-requires-clause-free : goal.put-requires-clause-free
put-requires-clause-free c = is_gone c.self.inside.parts c.take-part.new.self c.args.who c.take-part.ensures.parts

pub invariant_of-self-2 : goal.invariant_of-self-2
invariant_of-self-2 c = reserve_numbers c.self.inside c.put.new.self c.args.who c.take-part.result c.reserve-2.new.self (swapped c.self.inside.parts c.take-part.new.self c.put.new.self c.args.who c.take-part.result c.reserve-2.new.self c.take-part.ensures.part c.take-part.ensures.parts c.take-part.ensures.reserved c.take-part.ensures.number c.put.ensures.parts c.put.ensures.reserved) (record { need = c.args.need; bytes = c.args.bytes; id = c.self.inside.ids; store = c.self.inside.stores }) c.reserve-2.ensures c.promise.new.self c.reserve.new.self c.in-Ok.ensures.levels c.in-Ok-promise.ensures.notes (c.self.inside.ids + c.args.need.nodes) (c.self.inside.stores + c.args.need.nodes) c.self.invariant
    (ap (λ (p : Part). p.reserved) (sym (known_part c.self.inside c.args.self.now c.self.view_is c.args.who c.requires.part.0 c.take-part.result c.requires.part.1 c.take-part.ensures.part)) ∙ c.requires.part.2) (c.reserved-promised.result + 1) (ap (λ n. n + 1) c.reserved-promised.ensures.count) c.in-Ok.ensures.room c.in-Ok-promise.ensures.room

pub returns-clause-step : goal.returns-clause-step
returns-clause-step c = record {
  may = λ tree. c.requires.part;
  does = λ tree. reserve_step c.self.inside c.put.new.self c.args.who c.take-part.result c.reserve-2.new.self (swapped c.self.inside.parts c.take-part.new.self c.put.new.self c.args.who c.take-part.result c.reserve-2.new.self c.take-part.ensures.part c.take-part.ensures.parts c.take-part.ensures.reserved c.take-part.ensures.number c.put.ensures.parts c.put.ensures.reserved) (record { need = c.args.need; bytes = c.args.bytes; id = c.self.inside.ids; store = c.self.inside.stores }) c.reserve-2.ensures c.promise.new.self c.reserve.new.self c.in-Ok.ensures.levels c.in-Ok-promise.ensures.notes (c.self.inside.ids + c.args.need.nodes) (c.self.inside.stores + c.args.need.nodes) c.args.self.now c.self.view_is c.args.need c.args.bytes (ap (λ (z : NumbersState). reserved_next z c.args.need c.args.bytes) c.self.view_is) refl refl tree;
}
