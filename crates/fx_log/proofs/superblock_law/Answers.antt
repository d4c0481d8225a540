use Rattle.fx_log.proofs.SuperChoice.{one_super}
use Rattle.fx_log.proofs.superblock_law.Goals as goal

pub returns : goal.returns
returns c = record { one = one_super }
