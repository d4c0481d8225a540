use Rattle.std.proofs.Common.{◌≡◌, ◌++◌, drop}
use Rattle.std.specs.Prelude.{string_bytes}
use Rattle.fx_script.specs.Print.{spaced}
use Rattle.fx_words.specs.FullText.{group_words}
use Rattle.fx_words.proofs.FullPrints.{behind_text}
use Rattle.fx_words.proofs.print.push_group.Given as goal

abbrev pub invariant-loop-step : goal.invariant-loop-step
invariant-loop-step l = string_bytes l.out ++ behind_text (drop l.step-index l.rest) ≡ string_bytes l.fn.out ++ spaced (group_words l.steps)
