use Rattle.std.proofs.Common.{◌+◌, sym, ap, subst, ◌∙◌}
use Rattle.fx_parts.specs.Parts.{Part}
use Rattle.fx_numbers.specs.State.{NumbersState, commit_now}
use Rattle.fx_numbers.proofs.Changing.{is_gone, known_part, part_in, swapped}
use Rattle.std.specs.Option.{IsSome}
use Rattle.std.specs.Arc.{arc_value}
use Rattle.fx_numbers.proofs.Reserving.{batch_place, commit_numbers, commit_step, note_place, one_promised}
use Rattle.fx_numbers.proofs.numbers.Numbers.commit.Goals as goal

pub take-part-requires : goal.take-part-requires
take-part-requires c = (c.requires.part.0, part_in c.self.inside c.args.self.now c.self.view_is c.args.who c.requires.part.0 c.requires.part.1)

pub put-requires-clause-free : goal.put-requires-clause-free
put-requires-clause-free c = is_gone c.self.inside.parts c.take-part.new.self c.args.who c.take-part.ensures.parts

pub push-requires : goal.push-requires
push-requires c = batch_place c.self.inside c.self.invariant c.take-part.new.self c.take-part.result c.take-part.ensures.reserved (one_promised c.take-part.result (subst (λ (p : Part). IsSome p.reserved) (known_part c.self.inside c.args.self.now c.self.view_is c.args.who c.requires.part.0 c.take-part.result c.requires.part.1 c.take-part.ensures.part) c.requires.part.2))

pub push-requires-2 : goal.push-requires-2
push-requires-2 c = note_place c.self.inside c.self.invariant c.take-part.new.self c.take-part.result c.take-part.ensures.reserved (one_promised c.take-part.result (subst (λ (p : Part). IsSome p.reserved) (known_part c.self.inside c.args.self.now c.self.view_is c.args.who c.requires.part.0 c.take-part.result c.requires.part.1 c.take-part.ensures.part) c.requires.part.2))

pub invariant_of-self : goal.invariant_of-self
invariant_of-self c = commit_numbers c.self.inside c.put.new.self c.args.who c.take-part.result c.commit.new.self (swapped c.self.inside.parts c.take-part.new.self c.put.new.self c.args.who c.take-part.result c.commit.new.self c.take-part.ensures.part c.take-part.ensures.parts c.take-part.ensures.reserved c.take-part.ensures.number c.put.ensures.parts c.put.ensures.reserved) c.args.entry (arc_value c.args.batch) c.commit.ensures c.self.invariant (one_promised c.take-part.result (subst (λ (p : Part). IsSome p.reserved) (known_part c.self.inside c.args.self.now c.self.view_is c.args.who c.requires.part.0 c.take-part.result c.requires.part.1 c.take-part.ensures.part) c.requires.part.2)) (c.requires.number ∙ ap (λ (z : NumbersState). commit_now z + 1) (sym c.self.view_is)) c.push-2.new.self c.push.new.self c.push-2.ensures c.push.ensures

pub returns : goal.returns
returns c = λ tree. commit_step c.self.inside c.put.new.self c.args.who c.take-part.result c.commit.new.self (swapped c.self.inside.parts c.take-part.new.self c.put.new.self c.args.who c.take-part.result c.commit.new.self c.take-part.ensures.part c.take-part.ensures.parts c.take-part.ensures.reserved c.take-part.ensures.number c.put.ensures.parts c.put.ensures.reserved) c.args.entry (arc_value c.args.batch) c.commit.ensures c.args.self.now c.self.view_is c.push-2.new.self c.push.new.self c.push-2.ensures c.push.ensures tree
