use Rattle.fx_steps.proofs.Sized.{marked_sizes, placed_sizes, removed_sizes, renamed_sizes, truncated_sizes, written_sizes}
use Rattle.fx_steps.proofs.laws.size_laws.Goals as goal

pub returns-clause-placed : goal.returns-clause-placed
returns-clause-placed c = λ tree path node after k r. placed_sizes tree k path node after r

pub returns-clause-written : goal.returns-clause-written
returns-clause-written c = written_sizes

pub returns-clause-truncated : goal.returns-clause-truncated
returns-clause-truncated c = truncated_sizes

pub returns-clause-removed : goal.returns-clause-removed
returns-clause-removed c = λ tree path after k r. removed_sizes tree k path after r

pub returns-clause-renamed : goal.returns-clause-renamed
returns-clause-renamed c = renamed_sizes

pub returns-clause-marked : goal.returns-clause-marked
returns-clause-marked c = marked_sizes
