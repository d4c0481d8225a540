use Rattle.std.proofs.Common.{arith}
use Rattle.fx_journal.proofs.Ready.{ready-promised}
use Rattle.fx_journal.proofs.ring.tests.cancel.Goals as goal

pub returns : goal.returns
returns g c = ready-promised c.args.ring.now c.cancel.new.self c.args.pool.now c.cancel.new.pool _ _ c.requires c.cancel.ensures.kept.ring c.cancel.ensures.kept.buffers c.cancel.ensures.kept.others.order c.cancel.ensures.cancelled.ring (omega (arith, c.cancel.ensures.cancelled.given))
