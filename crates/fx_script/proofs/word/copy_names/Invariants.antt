use Rattle.std.proofs.Common.{◌≡◌, ◌++◌}
use Rattle.fx_script.specs.Cut.{cut}
use Rattle.fx_script.specs.Checked.{names_in}
use Rattle.fx_script.proofs.word.copy_names.Given as goal

abbrev pub invariant-loop-piece : goal.invariant-loop-piece
invariant-loop-piece l = l.names.items ++ names_in l.piece-iterator ≡ names_in (cut 47 l.text)
