use Rattle.std.proofs.Common.{arith}
use Rattle.fx_journal.proofs.Ready.{ready-promised, ready-room}
use Rattle.fx_journal.proofs.ring.tests.reserve.Goals as goal

pub reserve-requires : goal.reserve-requires
reserve-requires c = record { buffers = c.requires.ready.buffers; blocks = ready-room c.args.ring.now c.args.pool.now c.args.bytes c.requires.ready c.requires.few }

pub returns : goal.returns
returns c = ready-promised c.args.ring.now c.reserve.new.self c.args.pool.now c.reserve.new.pool _ _ c.requires.ready c.in_default.ensures.kept.ring c.in_default.ensures.kept.buffers c.in_default.ensures.kept.others.order c.in_default.ensures.promised.ring (omega (arith, c.in_default.ensures.promised.taken))
