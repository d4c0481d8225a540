use Rattle.fx_disk.proofs.Written.{writes-at, entry-at, last-at, candidate-at}
use Rattle.fx_disk.proofs.laws.written_blocks.Goals as goal

pub returns-clause-writes : goal.returns-clause-writes
returns-clause-writes c = writes-at

pub returns-clause-entry : goal.returns-clause-entry
returns-clause-entry c = entry-at

pub returns-clause-last : goal.returns-clause-last
returns-clause-last c = last-at

pub returns-clause-candidate : goal.returns-clause-candidate
returns-clause-candidate c = candidate-at
