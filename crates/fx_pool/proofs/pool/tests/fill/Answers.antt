use Rattle.std.proofs.Common.{arith}
use Rattle.fx_pool.proofs.Buffers.{bytes-kept}
use Rattle.fx_pool.proofs.pool.tests.fill.Goals as goal

pub returns-clause-others : goal.returns-clause-others
returns-clause-others c run out ne = bytes-kept c.args.pool.now c.args.buf.now run c.fill.new.self c.requires.sound c.requires.out out ne (omega (arith, c.fill.ensures.len, c.bytes_mut.ensures.len))
