use Rattle.fx_kept.proofs.FoldedTxns.{left_with_commits, left_with_discard}
use Rattle.fx_kept.proofs.laws.folded_records.Goals as goal

pub returns-clause-commits : goal.returns-clause-commits
returns-clause-commits c = left_with_commits

pub returns-clause-discard : goal.returns-clause-discard
returns-clause-discard c = left_with_discard
