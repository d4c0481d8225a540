use Rattle.fx_disk.proofs.Settled.{was-settled, was-settled_before, was-settled_now, settled-was, settled-good}
use Rattle.fx_disk.proofs.Told.{settled-told, no_failed-told_write, no_failed-told_flush}
use Rattle.fx_disk.proofs.laws.settled_moments.Goals as goal

pub returns-clause-later : goal.returns-clause-later
returns-clause-later c = λ r call contents start le. (was-settled r call contents start le, was-settled_before r call contents start le)

pub returns-clause-now : goal.returns-clause-now
returns-clause-now c = λ r. (settled-was r, was-settled_now r)

pub returns-clause-flush : goal.returns-clause-flush
returns-clause-flush c before after ok w =
    settled-told before.told after.told before.calls after.calls after.last_made ok w.made

pub returns-clause-none_failed : goal.returns-clause-none_failed
returns-clause-none_failed c = settled-good

pub returns-clause-good_write : goal.returns-clause-good_write
returns-clause-good_write c before after at bytes w =
    no_failed-told_write before.told after.told before.calls after.calls after.last_made at bytes w.made

pub returns-clause-good_flush : goal.returns-clause-good_flush
returns-clause-good_flush c before after w =
    no_failed-told_flush before.told after.told before.calls after.calls after.last_made w.made
