use Rattle.fx_kept.proofs.KeptContents.{stretch_front, stretch_later}
use Rattle.fx_kept.proofs.laws.stretches.Goals as goal

pub returns-clause-front : goal.returns-clause-front
returns-clause-front c = stretch_front

pub returns-clause-later : goal.returns-clause-later
returns-clause-later c = stretch_later
