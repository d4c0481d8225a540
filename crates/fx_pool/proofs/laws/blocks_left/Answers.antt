use Rattle.fx_pool.proofs.Buffers.{HasFree-where}
use Rattle.fx_pool.proofs.laws.blocks_left.Goals as goal

pub returns : goal.returns
returns c = HasFree-where
