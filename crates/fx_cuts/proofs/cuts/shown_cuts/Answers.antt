use Rattle.fx_cuts.proofs.CutPoints.{cut_front, cut_later}
use Rattle.fx_cuts.proofs.cuts.shown_cuts.Goals as goal

pub returns-clause-front : goal.returns-clause-front
returns-clause-front c = cut_front

pub returns-clause-later : goal.returns-clause-later
returns-clause-later c = cut_later
