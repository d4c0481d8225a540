use Rattle.fx_journal.proofs.Runs.{run_next, run_series}
use Rattle.fx_journal.proofs.laws.sequences_of_runs.Goals as goal

pub returns-clause-next : goal.returns-clause-next
returns-clause-next c = run_next

pub returns-clause-series : goal.returns-clause-series
returns-clause-series c = run_series
