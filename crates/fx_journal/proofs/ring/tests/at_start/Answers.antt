use Rattle.std.proofs.Common.{ap, refl, arith}
use Rattle.fx_journal.specs.Ring.{RingState}
use Rattle.fx_journal.proofs.Ready.{ready-at, ready-step, ready-promised, ready-padded, ready-freed, ready-room}
use Rattle.fx_journal.proofs.ring.tests.at_start.Goals as goal

pub returns : goal.returns
returns c = ready-at c.in_ok-ring.ring c.args.pool.now c.requires.whole c.requires.sound c.in_ok-ring.ensures.ring (ap (λ (r : RingState). r.size) c.in_ok-ring.ensures.state) (ap (λ (r : RingState). r.buffers) c.in_ok-ring.ensures.state)
