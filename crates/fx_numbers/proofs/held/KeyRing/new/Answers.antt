use Rattle.std.proofs.Common.{sym, subst, arith}
use Rattle.fx_numbers.specs.Held.{AreHeldInOrder}
use Rattle.fx_numbers.proofs.HeldLists.{nothing_held}
use Rattle.fx_numbers.proofs.held.KeyRing.new.Goals as goal

pub invariant_of-result : goal.invariant_of-result
invariant_of-result c =
    let len = c.new.ensures.len in
    record { sorted = subst AreHeldInOrder (sym c.new.ensures.items) nothing_held; memory = omega arith }
