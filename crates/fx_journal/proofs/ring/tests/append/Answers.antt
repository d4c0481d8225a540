use Rattle.fx_journal.proofs.Ready.{ready-step}
use Rattle.fx_journal.proofs.ring.tests.append.Goals as goal

pub returns : goal.returns
returns g c = ready-step c.args.ring.now c.append.new.self c.args.pool.now c.append.new.pool c.requires c.append.ensures.kept.ring c.append.ensures.kept.buffers c.append.ensures.kept.size c.append.ensures.kept.others.order c.append.ensures.counts.given
