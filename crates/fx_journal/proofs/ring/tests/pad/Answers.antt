use Rattle.std.proofs.Common.{ap, refl, arith}
use Rattle.fx_journal.specs.Ring.{RingState}
use Rattle.fx_journal.proofs.Ready.{ready-at, ready-step, ready-promised, ready-padded, ready-freed, ready-room}
use Rattle.fx_journal.proofs.ring.tests.pad.Goals as goal

pub returns : goal.returns
returns c = ready-padded c.args.ring.now c.pad.new.self c.args.pool.now c.pad.new.pool c.requires c.pad.ensures.kept.ring c.pad.ensures.kept.buffers c.pad.ensures.kept.others.order c.pad.ensures.padded c.pad.ensures.out
