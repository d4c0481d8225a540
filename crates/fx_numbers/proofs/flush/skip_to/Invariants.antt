use Rattle.std.proofs.Common.{length}
use Rattle.fx_numbers.specs.Noted.{ReachAlike}
use Rattle.fx_numbers.proofs.flush.skip_to.Given as goal

abbrev pub invariant-loop-first : goal.invariant-loop-first
invariant-loop-first l = ReachAlike l.number l.rest l.fn.flushes

abbrev pub decreases-loop-first : goal.decreases-loop-first
decreases-loop-first l = length l.rest
