use Rattle.fx_disk.proofs.Told.{carried-write, carried-flush}
use Rattle.fx_disk.proofs.laws.always_after_call.Goals as goal

pub returns-clause-write : goal.returns-clause-write
returns-clause-write g c from before after at bytes ok w =
    carried-write g.P.ImageFact.holds g.Q.ImageFact.holds from before.told after.told before.calls after.calls after.last_made ok at bytes w.made

pub returns-clause-flush : goal.returns-clause-flush
returns-clause-flush g c from before after ok w =
    carried-flush g.P.ImageFact.holds g.Q.ImageFact.holds from before.told after.told before.calls after.calls after.last_made ok w.made
