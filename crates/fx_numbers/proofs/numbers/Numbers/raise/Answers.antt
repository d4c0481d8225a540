use Rattle.std.proofs.Common.{sym, ap, subst, ◌∙◌, arith}
use Rattle.std.specs.FinMap as finite
use Rattle.fx_parts.specs.Parts.{Part}
use Rattle.fx_numbers.specs.Slots.{promised_by}
use Rattle.fx_numbers.specs.State.{NumbersState}
use Rattle.fx_numbers.proofs.Changing.{is_gone, keys_step, known_part, part_in, still, swapped}
use Rattle.fx_keys.specs.Table.{RaiseGives}
use Rattle.fx_keys.specs.declared.table.Asked.TheVariants.{Held}
use Rattle.fx_parts.specs.Happening.{with_raised}
use Rattle.fx_parts.proofs.Agreeing.{keys_raise}
use Rattle.fx_numbers.proofs.Raising.{raised_grant}
use Rattle.fx_numbers.proofs.numbers.Numbers.raise.Goals as goal

pub take-part-requires : goal.take-part-requires
take-part-requires c = (c.requires.0, part_in c.self.inside c.args.self.now c.self.view_is c.args.who c.requires.0 c.requires.1)

pub put-requires-clause-free : goal.put-requires-clause-free
put-requires-clause-free c = is_gone c.self.inside.parts c.take-part.new.self c.args.who c.take-part.ensures.parts

pub invariant_of-self-2 : goal.invariant_of-self-2
invariant_of-self-2 c = still c.self.inside c.self.invariant c.put.new.self c.args.who c.take-part.result c.raise-2.new.self (swapped c.self.inside.parts c.take-part.new.self c.put.new.self c.args.who c.take-part.result c.raise-2.new.self c.take-part.ensures.part c.take-part.ensures.parts c.take-part.ensures.reserved c.take-part.ensures.number c.put.ensures.parts c.put.ensures.reserved) c.raise.new.self (keys_raise c.self.inside.table c.self.inside.parts.parts c.args.who c.self.invariant.keys c.raise.new.self c.take-part.result c.raise-2.new.self c.take-part.ensures.part c.args.key c.requires.2.grant (ap (λ (p : Part). finite.get p.grants c.args.key) (sym (known_part c.self.inside c.args.self.now c.self.view_is c.args.who c.requires.0 c.take-part.result c.requires.1 c.take-part.ensures.part)) ∙ c.requires.2.held) c.requires.2.change c.in_default.ensures.answer.0 c.in_default.ensures.answer.1 (ap (λ (p : Part). p.grants) c.raise-2.ensures ∙ raised_grant c.take-part.result c.args.key c.requires.2.grant (ap (λ (p : Part). finite.get p.grants c.args.key) (sym (known_part c.self.inside c.args.self.now c.self.view_is c.args.who c.requires.0 c.take-part.result c.requires.1 c.take-part.ensures.part)) ∙ c.requires.2.held)) (ap (λ (p : Part). p.room) c.raise-2.ensures)) (omega (arith, ap promised_by c.raise-2.ensures))

pub returns : goal.returns
returns c = record {
  may = λ tree. (c.requires, subst (λ (z : NumbersState). RaiseGives z.table c.args.who c.args.key Held c.raise.new.self) c.self.view_is c.in_default.ensures.answer);
  does = λ tree. keys_step c.self.inside c.args.self.now c.self.view_is c.put.new.self c.args.who c.take-part.result c.raise-2.new.self (swapped c.self.inside.parts c.take-part.new.self c.put.new.self c.args.who c.take-part.result c.raise-2.new.self c.take-part.ensures.part c.take-part.ensures.parts c.take-part.ensures.reserved c.take-part.ensures.number c.put.ensures.parts c.put.ensures.reserved) tree c.raise.new.self (with_raised c.args.key) c.raise-2.ensures;
}
