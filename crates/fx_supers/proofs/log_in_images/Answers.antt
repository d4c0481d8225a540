use Rattle.fx_supers.proofs.LogSeen.{log-chooses, log-shows}
use Rattle.fx_supers.proofs.log_in_images.Goals as goal

pub returns-clause-shows : goal.returns-clause-shows
returns-clause-shows c = log-shows

pub returns-clause-current : goal.returns-clause-current
returns-clause-current c = log-chooses
