use Rattle.std.proofs.Common.{◌+◌, ap, subst, arith}
use Rattle.fx_parts.specs.Parts.{Part}
use Rattle.fx_numbers.specs.Slots.{promised_by}
use Rattle.fx_numbers.specs.State.{NumbersState}
use Rattle.fx_numbers.proofs.Changing.{is_gone, keys_step, part_in, still, swapped}
use Rattle.fx_keys.specs.Table.{GainsRoom}
use Rattle.fx_parts.proofs.Agreeing.{keys_room}
use Rattle.fx_parts.proofs.Conditions.{seat}
use Rattle.fx_numbers.proofs.Changing.{undone, undone_state}
use Rattle.fx_numbers.proofs.numbers.Numbers.room.Goals as goal

pub take-part-requires : goal.take-part-requires
take-part-requires c = (c.requires.0, part_in c.self.inside c.args.self.now c.self.view_is c.args.who c.requires.0 c.requires.1)

pub make_room-requires : goal.make_room-requires
make_room-requires c = seat c.self.inside.table c.self.inside.parts.parts c.self.invariant.keys c.self.invariant.numbers c.args.who c.take-part.result c.take-part.ensures.part

pub put-requires-clause-free : goal.put-requires-clause-free
put-requires-clause-free c = is_gone c.self.inside.parts c.take-part.new.self c.args.who c.take-part.ensures.parts

pub put-requires-2-clause-free : goal.put-requires-2-clause-free
put-requires-2-clause-free c = is_gone c.self.inside.parts c.take-part.new.self c.args.who c.take-part.ensures.parts

pub invariant_of-self : goal.invariant_of-self
invariant_of-self c = undone c.self.inside c.self.invariant c.put.new.self c.args.who c.take-part.result c.make_room.new.self (swapped c.self.inside.parts c.take-part.new.self c.put.new.self c.args.who c.take-part.result c.make_room.new.self c.take-part.ensures.part c.take-part.ensures.parts c.take-part.ensures.reserved c.take-part.ensures.number c.put.ensures.parts c.put.ensures.reserved) c.make_room.new.table c.in_default.ensures.err_table c.in_default.ensures.err

pub returns-in_default-clause-err : goal.returns-in_default-clause-err
returns-in_default-clause-err c = undone_state c.self.inside c.args.self.now c.self.view_is c.put.new.self c.args.who c.take-part.result c.make_room.new.self (swapped c.self.inside.parts c.take-part.new.self c.put.new.self c.args.who c.take-part.result c.make_room.new.self c.take-part.ensures.part c.take-part.ensures.parts c.take-part.ensures.reserved c.take-part.ensures.number c.put.ensures.parts c.put.ensures.reserved) c.make_room.new.table c.in_default.ensures.err_table c.in_default.ensures.err

pub invariant_of-self-2 : goal.invariant_of-self-2
invariant_of-self-2 c = still c.self.inside c.self.invariant c.put-2.new.self c.args.who c.take-part.result c.make_room.new.self (swapped c.self.inside.parts c.take-part.new.self c.put-2.new.self c.args.who c.take-part.result c.make_room.new.self c.take-part.ensures.part c.take-part.ensures.parts c.take-part.ensures.reserved c.take-part.ensures.number c.put-2.ensures.parts c.put-2.ensures.reserved) c.make_room.new.table (keys_room c.self.inside.table c.self.inside.parts.parts c.args.who c.self.invariant.keys c.make_room.new.table c.take-part.result c.make_room.new.self c.take-part.ensures.part c.args.count c.in-Ok.ensures.table (ap (λ (p : Part). p.grants) c.in-Ok.ensures.room) (ap (λ (p : Part). p.room) c.in-Ok.ensures.room)) (omega (arith, ap promised_by c.in-Ok.ensures.room))

pub returns-clause-step : goal.returns-clause-step
returns-clause-step c = record {
  may = λ tree. (c.requires, subst (λ (z : NumbersState). GainsRoom z.table c.make_room.new.table c.args.who c.args.count) c.self.view_is c.in-Ok.ensures.table);
  does = λ tree. keys_step c.self.inside c.args.self.now c.self.view_is c.put-2.new.self c.args.who c.take-part.result c.make_room.new.self (swapped c.self.inside.parts c.take-part.new.self c.put-2.new.self c.args.who c.take-part.result c.make_room.new.self c.take-part.ensures.part c.take-part.ensures.parts c.take-part.ensures.reserved c.take-part.ensures.number c.put-2.ensures.parts c.put-2.ensures.reserved) tree c.make_room.new.table (λ p. record p { room = p.room + c.args.count }) c.in-Ok.ensures.room;
}
