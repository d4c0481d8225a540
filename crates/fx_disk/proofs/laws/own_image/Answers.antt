use Rattle.fx_disk.proofs.Records.{reads-left, reads-alone}
use Rattle.fx_disk.proofs.laws.own_image.Goals as goal

pub returns-clause-left : goal.returns-clause-left
returns-clause-left c = reads-left

pub returns-clause-alone : goal.returns-clause-alone
returns-clause-alone c = reads-alone
