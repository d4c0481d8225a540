use Rattle.std.proofs.Common.{length}
use Rattle.fx_journal.proofs.Appending.{Going}
use Rattle.fx_journal.proofs.ring.Ring.append.Given as goal

abbrev pub invariant-loop-piece : goal.invariant-loop-piece
invariant-loop-piece l = Going l.fn.self l.self l.fn.pool l.pool l.rest l.fn.rec

abbrev pub decreases-loop-piece : goal.decreases-loop-piece
decreases-loop-piece l = length l.rest
