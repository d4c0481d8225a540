use Rattle.fx_journal.proofs.Runs.{ended_run}
use Rattle.fx_journal.proofs.laws.ended_runs.Goals as goal

pub returns : goal.returns
returns c = ended_run
