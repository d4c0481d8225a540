use Rattle.std.proofs.Common.{◌-◌, length}
use Rattle.fx_worked.proofs.Numbered.{NoMore}
use Rattle.fx_worked.proofs.keeping.kept_from_top.Given as goal

abbrev pub invariant-loop-dropped : goal.invariant-loop-dropped
invariant-loop-dropped l = NoMore l.txns l.found (length l.txns - l.dropped)
