use Rattle.std.proofs.Common.{sym, subst, arith}
use Rattle.fx_keys.specs.Holdings.{IsKeyArray}
use Rattle.fx_keys.proofs.HoldArrays.{nothing_sorted}
use Rattle.fx_keys.proofs.holdings.Holdings.new.Goals as goal

pub invariant_of-result : goal.invariant_of-result
invariant_of-result c =
    let len = c.new.ensures.len in
    record { sorted = subst IsKeyArray (sym c.new.ensures.items) nothing_sorted; memory = omega arith }
