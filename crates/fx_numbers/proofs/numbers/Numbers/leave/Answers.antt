use Rattle.std.proofs.Common.{subst}
use Rattle.fx_numbers.proofs.Changing.{known_part, part_in}
use Rattle.fx_parts.specs.Parts.{IsEmptyPart}
use Rattle.fx_numbers.proofs.Leaving.{left_numbers}
use Rattle.fx_numbers.proofs.numbers.Numbers.leave.Goals as goal

pub take-requires : goal.take-requires
take-requires c = (c.requires.0, part_in c.self.inside c.args.self.now c.self.view_is c.args.who c.requires.0 c.requires.1)

pub invariant_of-self : goal.invariant_of-self
invariant_of-self c = left_numbers c.self.inside c.self.invariant c.take.new.self c.args.who c.take.result c.take.ensures.part c.take.ensures.parts c.take.ensures.reserved (subst IsEmptyPart (known_part c.self.inside c.args.self.now c.self.view_is c.args.who c.requires.0 c.take.result c.requires.1 c.take.ensures.part) c.requires.2)
