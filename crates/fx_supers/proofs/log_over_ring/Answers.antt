use Rattle.fx_supers.proofs.LogSeen.{log-closes, log-elsewhere, log-flushes, log-stays, log-writes}
use Rattle.fx_supers.proofs.log_over_ring.Goals as goal

pub returns-clause-closed : goal.returns-clause-closed
returns-clause-closed c = λ l seen more chain text h may. log-closes l seen h more chain text may

pub returns-clause-tried : goal.returns-clause-tried
returns-clause-tried c = λ l before after q ok h here w. log-writes l before h after q ok here w

pub returns-clause-synced : goal.returns-clause-synced
returns-clause-synced c = λ l before after ok h f. log-flushes l before h after ok f

pub returns-clause-stays : goal.returns-clause-stays
returns-clause-stays c = λ l before after ok h f. log-stays l before h after ok f

pub returns-clause-elsewhere : goal.returns-clause-elsewhere
returns-clause-elsewhere c = λ l before after at bytes ok h past w. log-elsewhere l before h after at bytes ok past w
