use Rattle.std.proofs.Common.{◌≡◌, ◌+◌, drop}
use Rattle.fx_verify.specs.Kept.{last_stated, with_sums}
use Rattle.fx_worked.proofs.keeping.stated_from.Given as goal

abbrev pub invariant-loop-sum : goal.invariant-loop-sum
invariant-loop-sum l = (l.place ≡ l.first + l.sum-index)
    × (last_stated l.block (with_sums l.place (drop l.sum-index l.sums)) l.last ≡ last_stated l.block (with_sums l.first l.sums) l.initial.last)
