use Rattle.std.proofs.Common.{◌≡◌}
use Rattle.fx_script.specs.Cut.{words_of}
use Rattle.fx_words.specs.Lines.{cut_parts, group_steps_of}
use Rattle.fx_words.specs.Said.{behind_steps}
use Rattle.fx_words.proofs.check.copy_group.Given as goal

abbrev pub invariant-loop-part : goal.invariant-loop-part
invariant-loop-part l = behind_steps l.steps.items (group_steps_of l.built l.part-iterator) ≡ group_steps_of l.built (cut_parts (words_of l.text))
