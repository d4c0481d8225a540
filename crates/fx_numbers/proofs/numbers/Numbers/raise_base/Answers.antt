use Rattle.std.proofs.Common.{arith}
use Rattle.fx_numbers.proofs.Noting.{raised_numbers}
use Rattle.fx_numbers.proofs.numbers.Numbers.raise_base.Goals as goal

pub invariant_of-self-2 : goal.invariant_of-self-2
invariant_of-self-2 c =
    let room = c.in-Ok.ensures.room in
    let count = c.reserved-promised.ensures.count in
    let upto = c.self.invariant.upto in
    raised_numbers c.self.inside c.self.invariant c.promise.new.self c.args.base (omega arith) c.promise.ensures.notes c.push.new.self c.push.ensures
