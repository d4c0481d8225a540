use Rattle.fx_parts.specs.Live.{MakesNames}
use Rattle.fx_parts.proofs.Closing.{line_commits, line_looks}
use Rattle.fx_parts.proofs.Resting.{event_ends, no_ends}
use Rattle.fx_parts.proofs.laws.line_end_laws.Goals as goal

pub returns-clause-commits : goal.returns-clause-commits
returns-clause-commits c = λ s who items sents ends sent entry a may of. line_commits s.mounted s.notes sents ends a sent entry may.1.next of

pub returns-clause-looks : goal.returns-clause-looks
returns-clause-looks c = λ s sents ends sent end a right from upto above. line_looks s.mounted s.notes sents ends a sent end right from upto above

pub returns-clause-stay : goal.returns-clause-stay
returns-clause-stay c = λ s event sents ends a may none. event_ends s sents ends a MakesNames event may none

pub returns-clause-first : goal.returns-clause-first
returns-clause-first c = no_ends
