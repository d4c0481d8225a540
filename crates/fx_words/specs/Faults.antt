-- The word that tells a fault of a line: its name in small letters.
use Rattle.std.specs.Prelude.{ℕ, List, codes}
use Rattle.fx_script.specs.Fault.{fault_word}
use Rattle.fx_words.specs.declared.fault.WordFault.{WordFault}
use Rattle.fx_words.specs.declared.fault.WordFault.TheVariants.{Basic, GroupedLine, BadName, TooManySteps}

abbrev pub word_fault_word : WordFault → List ℕ
word_fault_word (Basic fault) = fault_word fault
word_fault_word GroupedLine = codes "groupedline"
word_fault_word BadName = codes "badname"
word_fault_word TooManySteps = codes "toomanysteps"
