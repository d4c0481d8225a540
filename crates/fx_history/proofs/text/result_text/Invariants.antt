use Rattle.std.proofs.Common.{◌≡◌, ◌++◌, ◌+◌, drop, length}
use Rattle.std.specs.String.{string_bytes}
use Rattle.fx_history.specs.Text.{result_text}
use Rattle.fx_history.proofs.text.result_text.Given as goal

abbrev pub invariant-loop-line : goal.invariant-loop-line
invariant-loop-line l = record {
  text : string_bytes l.text ++ result_text l.line-iterator (drop l.i l.outcomes) ≡ result_text l.tasks l.outcomes;
  left : l.i + length l.line-iterator ≡ length l.outcomes;
}
