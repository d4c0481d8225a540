use Rattle.fx_disk.proofs.Cells.{image-candidate, candidates-fixed}
use Rattle.fx_disk.proofs.laws.held_candidates.Goals as goal

pub returns-clause-image : goal.returns-clause-image
returns-clause-image c = image-candidate

pub returns-clause-fixed : goal.returns-clause-fixed
returns-clause-fixed c = candidates-fixed
