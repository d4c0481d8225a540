use Rattle.std.proofs.Common.{◌++◌, ◌∷◌, [], refl, ap, ◌∙◌, arith}
use Rattle.fx_parts.specs.Parts.{Part}
use Rattle.fx_numbers.specs.Slots.{promised_by}
use Rattle.fx_numbers.specs.State.{shared_of}
use Rattle.fx_numbers.proofs.Changing.{is_gone, part_in, part_step, still_same, swapped}
use Rattle.fx_parts.specs.Happening.{with_snapshot}
use Rattle.fx_numbers.specs.Shots.{Shot, taken_of}
use Rattle.fx_numbers.proofs.Changing.{undone, undone_state}
use Rattle.fx_numbers.proofs.Showing.{shot_is}
use Rattle.fx_numbers.proofs.numbers.Numbers.snapshot.Goals as goal

pub take-part-requires : goal.take-part-requires
take-part-requires c = (c.requires.0, part_in c.self.inside c.args.self.now c.self.view_is c.args.who c.requires.0 c.requires.1)

pub put-requires-clause-free : goal.put-requires-clause-free
put-requires-clause-free c = is_gone c.self.inside.parts c.take-part.new.self c.args.who c.take-part.ensures.parts

pub put-requires-2-clause-free : goal.put-requires-2-clause-free
put-requires-2-clause-free c = is_gone c.self.inside.parts c.take-part.new.self c.args.who c.take-part.ensures.parts

pub invariant_of-self : goal.invariant_of-self
invariant_of-self c = undone c.self.inside c.self.invariant c.put.new.self c.args.who c.take-part.result c.add_snapshot.new.self (swapped c.self.inside.parts c.take-part.new.self c.put.new.self c.args.who c.take-part.result c.add_snapshot.new.self c.take-part.ensures.part c.take-part.ensures.parts c.take-part.ensures.reserved c.take-part.ensures.number c.put.ensures.parts c.put.ensures.reserved) c.self.inside.table refl c.in_default-add_snapshot.ensures.err

pub returns-in_default-add_snapshot-clause-err : goal.returns-in_default-add_snapshot-clause-err
returns-in_default-add_snapshot-clause-err c = undone_state c.self.inside c.args.self.now c.self.view_is c.put.new.self c.args.who c.take-part.result c.add_snapshot.new.self (swapped c.self.inside.parts c.take-part.new.self c.put.new.self c.args.who c.take-part.result c.add_snapshot.new.self c.take-part.ensures.part c.take-part.ensures.parts c.take-part.ensures.reserved c.take-part.ensures.number c.put.ensures.parts c.put.ensures.reserved) c.self.inside.table refl c.in_default-add_snapshot.ensures.err

pub invariant_of-self-2 : goal.invariant_of-self-2
invariant_of-self-2 c = still_same c.self.inside c.self.invariant c.put-2.new.self c.args.who c.take-part.result c.add_snapshot.new.self (swapped c.self.inside.parts c.take-part.new.self c.put-2.new.self c.args.who c.take-part.result c.add_snapshot.new.self c.take-part.ensures.part c.take-part.ensures.parts c.take-part.ensures.reserved c.take-part.ensures.number c.put-2.ensures.parts c.put-2.ensures.reserved) (ap (λ (p : Part). p.grants) c.in-Ok-add_snapshot.ensures.ok) (ap (λ (p : Part). p.room) c.in-Ok-add_snapshot.ensures.ok) (omega (arith, ap promised_by c.in-Ok-add_snapshot.ensures.ok))

pub returns-clause-step : goal.returns-clause-step
returns-clause-step c = record {
  may = λ tree. c.requires;
  does = λ tree. part_step c.self.inside c.args.self.now c.self.view_is c.put-2.new.self c.args.who c.take-part.result c.add_snapshot.new.self (swapped c.self.inside.parts c.take-part.new.self c.put-2.new.self c.args.who c.take-part.result c.add_snapshot.new.self c.take-part.ensures.part c.take-part.ensures.parts c.take-part.ensures.reserved c.take-part.ensures.number c.put-2.ensures.parts c.put-2.ensures.reserved) tree (with_snapshot (shared_of tree c.args.self.now)) (c.in-Ok-add_snapshot.ensures.ok ∙ ap (λ (s : Shot). let w : Part = record c.take-part.result { snapshots = c.take-part.result.snapshots ++ taken_of s ∷ [] } in w) (c.in-Ok-share.ensures ∙ c.in-Ok.ensures ∙ shot_is c.self.inside c.self.invariant c.args.self.now c.self.view_is));
}
