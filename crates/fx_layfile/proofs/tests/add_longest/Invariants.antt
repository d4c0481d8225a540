use Rattle.std.proofs.Common.{◌≡◌}
use Rattle.fx_layfile.specs.Writing.{IsOpen}
use Rattle.fx_layfile.proofs.tests.add_longest.Given as goal

abbrev pub invariant-loop-letter : goal.invariant-loop-letter
invariant-loop-letter l = (l.writer.tree ≡ 1) × IsOpen l.writer
