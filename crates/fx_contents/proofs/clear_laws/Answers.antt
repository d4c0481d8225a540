use Rattle.fx_contents.proofs.ClearEnds.{clear_ends, ends_clear, needs_clear}
use Rattle.fx_contents.proofs.clear_laws.Goals as goal

pub returns-clause-ends : goal.returns-clause-ends
returns-clause-ends c = λ m f within. (clear_ends m f within, ends_clear m f within)

pub returns-clause-needed : goal.returns-clause-needed
returns-clause-needed c = needs_clear
