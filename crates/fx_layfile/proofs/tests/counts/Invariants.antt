use Rattle.std.proofs.Common.{◌≡◌}
use Rattle.fx_layfile.specs.Writing.{IsOpen}
use Rattle.fx_layfile.proofs.tests.counts.Given as goal

abbrev pub invariant-loop-place : goal.invariant-loop-place
invariant-loop-place l = record { opened : IsOpen l.writer; tree : l.writer.tree ≡ 1 }
