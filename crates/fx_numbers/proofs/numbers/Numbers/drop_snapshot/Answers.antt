use Rattle.std.proofs.Common.{◌≡◌, Some, ap, subst, arith}
use Rattle.fx_parts.specs.Parts.{Part}
use Rattle.fx_numbers.specs.Slots.{promised_by}
use Rattle.fx_numbers.proofs.Changing.{is_gone, known_part, part_in, part_step, still_same, swapped}
use Rattle.std.specs.Prelude.{slice_get}
use Rattle.std.proofs.lemmas.Option.{slice_get_within}
use Rattle.fx_parts.specs.Happening.{without_snapshot}
use Rattle.fx_numbers.specs.Shots.{taken_of}
use Rattle.fx_numbers.proofs.numbers.Numbers.drop_snapshot.Goals as goal

pub take-part-requires : goal.take-part-requires
take-part-requires c = (c.requires.0, part_in c.self.inside c.args.self.now c.self.view_is c.args.who c.requires.0 c.requires.1)

pub put-requires-clause-free : goal.put-requires-clause-free
put-requires-clause-free c = is_gone c.self.inside.parts c.take-part.new.self c.args.who c.take-part.ensures.parts

pub drop_snapshot-requires : goal.drop_snapshot-requires
drop_snapshot-requires c = slice_get_within c.take-part.result.snapshots c.args.index (taken_of c.args.shot) (subst (λ (p : Part). slice_get p.snapshots c.args.index ≡ Some (taken_of c.args.shot)) (known_part c.self.inside c.args.self.now c.self.view_is c.args.who c.requires.0 c.take-part.result c.requires.1 c.take-part.ensures.part) c.requires.2)

pub invariant_of-self : goal.invariant_of-self
invariant_of-self c = still_same c.self.inside c.self.invariant c.put.new.self c.args.who c.take-part.result c.drop_snapshot.new.self (swapped c.self.inside.parts c.take-part.new.self c.put.new.self c.args.who c.take-part.result c.drop_snapshot.new.self c.take-part.ensures.part c.take-part.ensures.parts c.take-part.ensures.reserved c.take-part.ensures.number c.put.ensures.parts c.put.ensures.reserved) (ap (λ (p : Part). p.grants) c.drop_snapshot.ensures) (ap (λ (p : Part). p.room) c.drop_snapshot.ensures) (omega (arith, ap promised_by c.drop_snapshot.ensures))

pub returns : goal.returns
returns c = record {
  may = λ tree. (c.requires.0, c.requires.1, slice_get_within c.requires.0.snapshots c.args.index (taken_of c.args.shot) c.requires.2);
  does = λ tree. part_step c.self.inside c.args.self.now c.self.view_is c.put.new.self c.args.who c.take-part.result c.drop_snapshot.new.self (swapped c.self.inside.parts c.take-part.new.self c.put.new.self c.args.who c.take-part.result c.drop_snapshot.new.self c.take-part.ensures.part c.take-part.ensures.parts c.take-part.ensures.reserved c.take-part.ensures.number c.put.ensures.parts c.put.ensures.reserved) tree (without_snapshot c.args.index) c.drop_snapshot.ensures;
}
