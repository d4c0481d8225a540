use Rattle.std.specs.FinMap as finite
use Rattle.fx_numbers.proofs.Noting.{mark_room, marked_numbers}
use Rattle.fx_numbers.proofs.numbers.Numbers.mark.Goals as goal

pub push-requires : goal.push-requires
push-requires c = mark_room c.self.inside c.self.invariant c.args.self.now c.self.view_is c.args.number c.args.calls (finite.empty) (c.requires (finite.empty))

pub invariant_of-self : goal.invariant_of-self
invariant_of-self c = marked_numbers c.self.inside c.self.invariant c.args.self.now c.self.view_is c.args.number c.args.calls (finite.empty) (c.requires (finite.empty)) c.push.new.self c.push.ensures
