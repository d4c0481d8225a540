use Rattle.std.proofs.Common.{◌≡◌, ◌++◌, drop}
use Rattle.std.specs.String.{string_bytes}
use Rattle.fx_history.specs.Text.{spaced_names}
use Rattle.fx_history.proofs.text.push_names.Given as goal

abbrev pub invariant-loop-name : goal.invariant-loop-name
invariant-loop-name l = string_bytes l.text ++ spaced_names (drop l.name-index l.names) ≡ string_bytes l.fn.text ++ spaced_names l.names
