use Rattle.std.proofs.Common.{◌≡◌, ◌+◌, ◌≤◌, length}
use Rattle.fx_plain.specs.declared.path.TheConstants.{MAX_NAMES}
use Rattle.fx_script.specs.Cut.{cut}
use Rattle.fx_script.specs.Word.{names_of}
use Rattle.fx_script.specs.Checked.{checked, names_in}
use Rattle.fx_script.proofs.word.check_names.Given as goal

abbrev pub invariant-loop-piece : goal.invariant-loop-piece
invariant-loop-piece l = record {
  names : checked (names_of l.piece-iterator) (names_in (cut 47 l.text)) ≡ names_of (cut 47 l.text);
  count : l.count + length l.piece-iterator ≡ length (cut 47 l.text);
  few : l.count ≤ MAX_NAMES;
}
