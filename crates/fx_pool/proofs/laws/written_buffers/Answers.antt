use Rattle.fx_pool.proofs.Buffers.{bytes-written, bytes-kept, IsSound-written}
use Rattle.fx_pool.proofs.laws.written_buffers.Goals as goal

pub returns-clause-held : goal.returns-clause-held
returns-clause-held c = bytes-written

pub returns-clause-others : goal.returns-clause-others
returns-clause-others c = bytes-kept

pub returns-clause-sound : goal.returns-clause-sound
returns-clause-sound c = IsSound-written
