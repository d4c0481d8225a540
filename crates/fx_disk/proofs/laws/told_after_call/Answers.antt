use Rattle.fx_disk.proofs.Told.{told-write, told-flush}
use Rattle.fx_disk.proofs.laws.told_after_call.Goals as goal

pub returns-clause-write : goal.returns-clause-write
returns-clause-write g c before after at bytes ok w =
    told-write before.told after.told before.calls after.calls after.last_made ok g.I.RecordFact.holds g.J.RecordFact.holds at bytes w.made

pub returns-clause-flush : goal.returns-clause-flush
returns-clause-flush g c before after ok w =
    told-flush before.told after.told before.calls after.calls after.last_made ok g.I.RecordFact.holds g.J.RecordFact.holds w.made
