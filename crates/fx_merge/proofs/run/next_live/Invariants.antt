use Rattle.fx_merge.specs.Merge.{edges_past}
use Rattle.fx_merge.proofs.Passing.{Skipped}
use Rattle.fx_merge.proofs.run.next_live.Given as goal

abbrev pub invariant-loop-fault : goal.invariant-loop-fault
invariant-loop-fault g l = Skipped l.initial.merge l.merge

abbrev pub decreases-loop-fault : goal.decreases-loop-fault
decreases-loop-fault g l = edges_past l.merge.levels l.merge.place
