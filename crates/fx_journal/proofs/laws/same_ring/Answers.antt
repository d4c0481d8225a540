use Rattle.fx_journal.proofs.Runs.{same_run, same_stream}
use Rattle.fx_journal.proofs.laws.same_ring.Goals as goal

pub returns-clause-run : goal.returns-clause-run
returns-clause-run c = same_run

pub returns-clause-stream : goal.returns-clause-stream
returns-clause-stream c = same_stream
