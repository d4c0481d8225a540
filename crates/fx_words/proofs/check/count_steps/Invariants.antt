use Rattle.std.proofs.Common.{◌≡◌, ◌+◌, ◌≤◌, length}
use Rattle.fx_script.specs.Cut.{words_of}
use Rattle.fx_words.specs.Lines.{cut_parts, group_steps_of}
use Rattle.fx_words.specs.Said.{steps_counted}
use Rattle.fx_words.proofs.check.count_steps.Given as goal

abbrev pub invariant-loop-part : goal.invariant-loop-part
invariant-loop-part l = record {
  counted : steps_counted l.count (group_steps_of l.built l.part-iterator) ≡ steps_counted 0 (group_steps_of l.built (cut_parts (words_of l.text)));
  few : l.count + length l.part-iterator ≤ length l.text + 2;
}
