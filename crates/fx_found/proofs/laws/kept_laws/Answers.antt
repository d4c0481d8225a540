use Rattle.fx_found.proofs.Numbered.{extents_keep, points_kept}
use Rattle.fx_found.proofs.laws.kept_laws.Goals as goal

pub returns-clause-points : goal.returns-clause-points
returns-clause-points c = points_kept

pub returns-clause-extents : goal.returns-clause-extents
returns-clause-extents c = extents_keep
