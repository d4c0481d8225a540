use Rattle.std.proofs.Common.{ap, subst, ◌∙◌, arith}
use Rattle.fx_parts.specs.Parts.{Part}
use Rattle.fx_numbers.specs.Slots.{promised_by}
use Rattle.fx_numbers.specs.State.{NumbersState, commit_now}
use Rattle.fx_numbers.proofs.Changing.{is_gone, keys_step, known_part, part_in, still, swapped}
use Rattle.fx_keys.specs.Table.{AskGives}
use Rattle.fx_keys.specs.declared.table.Asked.TheVariants.{Held}
use Rattle.fx_parts.specs.Happening.{MayAsk, with_key}
use Rattle.fx_parts.proofs.Agreeing.{keys_ask}
use Rattle.fx_numbers.proofs.numbers.Numbers.ask.Goals as goal

pub take-part-requires : goal.take-part-requires
take-part-requires c = (c.requires.0, part_in c.self.inside c.args.self.now c.self.view_is c.args.who c.requires.0 c.requires.1)

pub put-requires-clause-free : goal.put-requires-clause-free
put-requires-clause-free c = is_gone c.self.inside.parts c.take-part.new.self c.args.who c.take-part.ensures.parts

pub hold-requires : goal.hold-requires
hold-requires c = subst (MayAsk c.args.key c.args.mode) (known_part c.self.inside c.args.self.now c.self.view_is c.args.who c.requires.0 c.take-part.result c.requires.1 c.take-part.ensures.part) c.requires.2

pub invariant_of-self-2 : goal.invariant_of-self-2
invariant_of-self-2 c = still c.self.inside c.self.invariant c.put.new.self c.args.who c.take-part.result c.hold.new.self (swapped c.self.inside.parts c.take-part.new.self c.put.new.self c.args.who c.take-part.result c.hold.new.self c.take-part.ensures.part c.take-part.ensures.parts c.take-part.ensures.reserved c.take-part.ensures.number c.put.ensures.parts c.put.ensures.reserved) c.ask.new.self (keys_ask c.self.inside.table c.self.inside.parts.parts c.args.who c.self.invariant.keys c.ask.new.self c.take-part.result c.hold.new.self c.take-part.ensures.part c.args.key c.args.mode c.self.inside.number c.in_default.ensures.answer.0 c.in_default.ensures.answer.1 (ap (λ (p : Part). p.grants) c.hold.ensures) (ap (λ (p : Part). p.room) c.hold.ensures)) (omega (arith, ap promised_by c.hold.ensures))

pub returns : goal.returns
returns c = record {
  may = λ tree. (c.requires, subst (λ (z : NumbersState). AskGives z.table c.args.who c.args.key c.args.mode Held c.ask.new.self) c.self.view_is c.in_default.ensures.answer);
  does = λ tree. keys_step c.self.inside c.args.self.now c.self.view_is c.put.new.self c.args.who c.take-part.result c.hold.new.self (swapped c.self.inside.parts c.take-part.new.self c.put.new.self c.args.who c.take-part.result c.hold.new.self c.take-part.ensures.part c.take-part.ensures.parts c.take-part.ensures.reserved c.take-part.ensures.number c.put.ensures.parts c.put.ensures.reserved) tree c.ask.new.self (with_key c.args.key c.args.mode (commit_now c.args.self.now)) (c.hold.ensures ∙ ap (λ k. with_key c.args.key c.args.mode k c.take-part.result) (c.self.invariant.number ∙ ap commit_now c.self.view_is));
}
