use Rattle.std.proofs.Common.{refl}
use Rattle.fx_numbers.proofs.Noting.{opened_numbers}
use Rattle.fx_numbers.proofs.numbers.Numbers.open.Goals as goal

pub invariant_of-result : goal.invariant_of-result
invariant_of-result c = opened_numbers _ c.new.ensures c.new-2.ensures.empty c.new-3.ensures.parts c.new-3.ensures.reserved refl refl refl
