use Rattle.fxfs.proofs.FinalFlush.{sync_lasts}
use Rattle.fxfs.proofs.shell.flush.Goals as goal

pub returns-clause-lasts : goal.returns-clause-lasts
returns-clause-lasts g c =
    let old = c.args.store.now in
    let new = c.sync.new.self in
    sync_lasts (g.D.Disk.seen old.disk) (g.D.Disk.seen new.disk) old new c.in-Ok.ensures.keeps c.in-Ok.ensures.did
