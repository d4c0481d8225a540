use Rattle.fx_journal.proofs.Runs.{one_run, one_stream}
use Rattle.fx_journal.proofs.laws.one_stream.Goals as goal

pub returns-clause-run : goal.returns-clause-run
returns-clause-run c = one_run

pub returns-clause-stream : goal.returns-clause-stream
returns-clause-stream c = one_stream
