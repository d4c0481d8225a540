use Rattle.std.proofs.Common.{◌≡◌, ◌++◌, drop}
use Rattle.std.specs.Prelude.{string_bytes}
use Rattle.fx_script.specs.Print.{names_text}
use Rattle.fx_script.proofs.print.push_path.Given as goal

abbrev pub invariant-loop-name : goal.invariant-loop-name
invariant-loop-name l = string_bytes l.text ++ names_text (drop l.name-index l.names) ≡ string_bytes l.fn.text ++ names_text l.names
