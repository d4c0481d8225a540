use Rattle.fx_journal.proofs.Runs.{run_cut, run_joined, run_more}
use Rattle.fx_journal.proofs.laws.runs_in_parts.Goals as goal

pub returns-clause-cut : goal.returns-clause-cut
returns-clause-cut c = run_cut

pub returns-clause-joined : goal.returns-clause-joined
returns-clause-joined c = run_joined

pub returns-clause-one_more : goal.returns-clause-one_more
returns-clause-one_more c = run_more
