use Rattle.fx_disk.proofs.Cells.{after-write, other-block}
use Rattle.fx_disk.proofs.laws.block_after_write.Goals as goal

pub returns-clause-written : goal.returns-clause-written
returns-clause-written c = after-write

pub returns-clause-other : goal.returns-clause-other
returns-clause-other c = other-block
