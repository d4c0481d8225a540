use Rattle.fx_disk.proofs.Loose.{loose-where}
use Rattle.fx_disk.proofs.laws.loose_blocks.Goals as goal

pub returns : goal.returns
returns c = loose-where
