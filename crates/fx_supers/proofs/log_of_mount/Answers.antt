use Rattle.fx_supers.proofs.LogKept.{may-raise}
use Rattle.fx_supers.proofs.LogSeen.{log-mounted}
use Rattle.fx_supers.proofs.log_of_mount.Goals as goal

pub returns-clause-new : goal.returns-clause-new
returns-clause-new c = log-mounted

pub returns-clause-raise : goal.returns-clause-raise
returns-clause-raise c = may-raise
