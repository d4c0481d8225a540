use Rattle.std.proofs.Common.{ap, ◌∙◌, arith}
use Rattle.fx_parts.specs.Parts.{Part}
use Rattle.fx_numbers.specs.Slots.{promised_by}
use Rattle.fx_numbers.specs.State.{NumbersState}
use Rattle.fx_numbers.proofs.Changing.{is_gone, part_in, part_step, still_same, swapped}
use Rattle.fx_numbers.proofs.numbers.Numbers.met.Goals as goal

pub take-part-requires : goal.take-part-requires
take-part-requires c = (c.requires.0, part_in c.self.inside c.args.self.now c.self.view_is c.args.who c.requires.0 c.requires.1)

pub put-requires-clause-free : goal.put-requires-clause-free
put-requires-clause-free c = is_gone c.self.inside.parts c.take-part.new.self c.args.who c.take-part.ensures.parts

pub invariant_of-self : goal.invariant_of-self
invariant_of-self c = still_same c.self.inside c.self.invariant c.put.new.self c.args.who c.take-part.result c.meet.new.self (swapped c.self.inside.parts c.take-part.new.self c.put.new.self c.args.who c.take-part.result c.meet.new.self c.take-part.ensures.part c.take-part.ensures.parts c.take-part.ensures.reserved c.take-part.ensures.number c.put.ensures.parts c.put.ensures.reserved) (ap (λ (p : Part). p.grants) c.meet.ensures) (ap (λ (p : Part). p.room) c.meet.ensures) (omega (arith, ap promised_by c.meet.ensures))

pub returns : goal.returns
returns c = record {
  may = λ tree. c.requires;
  does = λ tree. part_step c.self.inside c.args.self.now c.self.view_is c.put.new.self c.args.who c.take-part.result c.meet.new.self (swapped c.self.inside.parts c.take-part.new.self c.put.new.self c.args.who c.take-part.result c.meet.new.self c.take-part.ensures.part c.take-part.ensures.parts c.take-part.ensures.reserved c.take-part.ensures.number c.put.ensures.parts c.put.ensures.reserved) tree (λ p. record p { faults = c.args.self.now.faults }) (c.meet.ensures ∙ ap (λ (z : NumbersState). let w : Part = record c.take-part.result { faults = z.faults } in w) c.self.view_is);
}
