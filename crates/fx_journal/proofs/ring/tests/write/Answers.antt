use Rattle.std.proofs.Common.{ap, refl, arith}
use Rattle.fx_journal.specs.Ring.{RingState}
use Rattle.fx_journal.proofs.Ready.{ready-at, ready-step, ready-promised, ready-padded, ready-freed, ready-room}
use Rattle.fx_journal.proofs.ring.tests.write.Goals as goal

pub returns : goal.returns
returns g c = ready-step c.args.ring.now c.write_next.new.self c.args.pool.now c.write_next.new.pool c.requires c.write_next.ensures.kept.ring c.write_next.ensures.kept.buffers c.write_next.ensures.kept.size c.write_next.ensures.kept.others.order c.write_next.ensures.given
