use Rattle.std.proofs.Common.{ap, subst, arith}
use Rattle.fx_parts.specs.Parts.{Part}
use Rattle.fx_numbers.specs.Slots.{promised_by}
use Rattle.fx_numbers.specs.State.{NumbersState}
use Rattle.fx_numbers.proofs.Changing.{is_gone, keys_step, part_in, still, swapped}
use Rattle.fx_keys.specs.Table.{Leaves}
use Rattle.fx_parts.specs.Happening.{without_keys}
use Rattle.fx_parts.proofs.Agreeing.{keys_unlock}
use Rattle.fx_numbers.proofs.numbers.Numbers.unlock.Goals as goal

pub take-part-requires : goal.take-part-requires
take-part-requires c = (c.requires.0, part_in c.self.inside c.args.self.now c.self.view_is c.args.who c.requires.0 c.requires.1)

pub put-requires-clause-free : goal.put-requires-clause-free
put-requires-clause-free c = is_gone c.self.inside.parts c.take-part.new.self c.args.who c.take-part.ensures.parts

pub invariant_of-self : goal.invariant_of-self
invariant_of-self c = still c.self.inside c.self.invariant c.put.new.self c.args.who c.take-part.result c.unlock.new.self (swapped c.self.inside.parts c.take-part.new.self c.put.new.self c.args.who c.take-part.result c.unlock.new.self c.take-part.ensures.part c.take-part.ensures.parts c.take-part.ensures.reserved c.take-part.ensures.number c.put.ensures.parts c.put.ensures.reserved) c.drop_all.new.self (keys_unlock c.self.inside.table c.self.inside.parts.parts c.args.who c.self.invariant.keys c.drop_all.new.self c.take-part.result c.unlock.new.self c.take-part.ensures.part c.drop_all.ensures.gone (ap (λ (p : Part). p.grants) c.unlock.ensures) (ap (λ (p : Part). p.room) c.unlock.ensures)) (omega (arith, ap promised_by c.unlock.ensures))

pub returns : goal.returns
returns c = record {
  may = λ tree. (c.requires, subst (λ (z : NumbersState). Leaves z.table c.drop_all.new.self c.args.who) c.self.view_is c.drop_all.ensures.gone);
  does = λ tree. keys_step c.self.inside c.args.self.now c.self.view_is c.put.new.self c.args.who c.take-part.result c.unlock.new.self (swapped c.self.inside.parts c.take-part.new.self c.put.new.self c.args.who c.take-part.result c.unlock.new.self c.take-part.ensures.part c.take-part.ensures.parts c.take-part.ensures.reserved c.take-part.ensures.number c.put.ensures.parts c.put.ensures.reserved) tree c.drop_all.new.self without_keys c.unlock.ensures;
}
