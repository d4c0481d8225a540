use Rattle.fx_words.proofs.First.{first_lines}
use Rattle.fx_words.proofs.laws.word_laws.Goals as goal

pub returns : goal.returns
returns c = record { first = first_lines }
