use Rattle.fx_pool.proofs.Buffers.{buffers-apart, bytes-apart}
use Rattle.fx_pool.proofs.laws.buffers_apart.Goals as goal

pub returns-clause-blocks : goal.returns-clause-blocks
returns-clause-blocks c = buffers-apart

pub returns-clause-bytes : goal.returns-clause-bytes
returns-clause-bytes c = bytes-apart
