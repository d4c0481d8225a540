use Rattle.fx_words.proofs.PartEnds.{Walked}
use Rattle.fx_words.proofs.parts.part_end.Given as goal

abbrev pub invariant-loop-word : goal.invariant-loop-word
invariant-loop-word l = Walked l.text l.at l.word-iterator
