use Rattle.std.proofs.Common.{ap, refl, arith}
use Rattle.fx_journal.specs.Ring.{RingState}
use Rattle.fx_journal.proofs.Ready.{ready-at, ready-step, ready-promised, ready-padded, ready-freed, ready-room}
use Rattle.fx_journal.proofs.ring.tests.free_before.Goals as goal

pub returns : goal.returns
returns g c = ready-freed c.args.ring.now c.free_before.new.self c.args.pool.now c.free_before.new.pool c.args.sequence c.requires c.free_before.ensures.kept.ring c.free_before.ensures.kept.buffers c.free_before.ensures.kept.others.order c.free_before.ensures.freed c.free_before.ensures.given
