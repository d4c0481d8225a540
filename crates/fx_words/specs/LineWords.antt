-- What a line says whose words were checked.
use Rattle.std.specs.Prelude.{Result, Ok}
use Rattle.fx_words.specs.declared.fault.WordFault.{WordFault}
use Rattle.fx_words.specs.declared.line.FullLine.{FullLine}
use Rattle.fx_words.specs.declared.line.FullLine.TheVariants as lines
use Rattle.fx_words.specs.declared.check.FullWords.{FullWords}
use Rattle.fx_words.specs.declared.check.FullWords.TheVariants as words
use Rattle.fx_words.specs.Lines.{◌>>=◌}
use Rattle.fx_words.specs.Said.{full_step_in}

abbrev pub full_line_in : FullWords → FullLine
full_line_in (words.Single step) = lines.Single (full_step_in step)
full_line_in (words.Group steps) = lines.Group steps
full_line_in words.Sync = lines.Sync
full_line_in words.Compact = lines.Compact

abbrev pub full_line_said : Result FullWords WordFault → Result FullLine WordFault
full_line_said found = found >>= λ line. Ok (full_line_in line)
