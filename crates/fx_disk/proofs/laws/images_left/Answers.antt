use Rattle.fx_disk.proofs.Loose.{left-where}
use Rattle.fx_disk.proofs.laws.images_left.Goals as goal

pub returns : goal.returns
returns c = left-where
