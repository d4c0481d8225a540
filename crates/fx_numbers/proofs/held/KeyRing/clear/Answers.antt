use Rattle.std.proofs.Common.{sym, subst, arith}
use Rattle.fx_numbers.specs.Held.{AreHeldInOrder}
use Rattle.fx_numbers.proofs.HeldLists.{nothing_held}
use Rattle.fx_numbers.proofs.held.KeyRing.clear.Goals as goal

pub invariant_of-self : goal.invariant_of-self
invariant_of-self c =
    let len = c.new.ensures.len in
    record { sorted = subst AreHeldInOrder (sym c.new.ensures.items) nothing_held; memory = omega arith }
