use Rattle.fx_supers.proofs.LogSeen.{log-finishes, log-puts}
use Rattle.fx_supers.proofs.log_over_supers.Goals as goal

pub returns-clause-put : goal.returns-clause-put
returns-clause-put c = λ l before after cut ok h may w. log-puts l before h after cut ok may w

pub returns-clause-finished : goal.returns-clause-finished
returns-clause-finished c = λ l before after cut h made f. log-finishes l before h after cut made f
