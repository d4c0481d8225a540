use Rattle.std.proofs.Common.{◌≡◌}
use Rattle.fx_layfile.specs.Writing.{IsOpen}
use Rattle.fx_layers.proofs.tests.put_layer.Given as goal

abbrev pub invariant-loop-word : goal.invariant-loop-word
invariant-loop-word l = record { opened : IsOpen l.writer; tree : l.writer.tree ≡ 1 }
