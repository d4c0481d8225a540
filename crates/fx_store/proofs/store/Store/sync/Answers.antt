use Rattle.std.proofs.Common.{true}
use Rattle.fx_store.proofs.Keeps.{live-then}
use Rattle.fx_store.proofs.store.Store.sync.Goals as goal

pub returns-clause-keeps : goal.returns-clause-keeps
returns-clause-keeps g c =
    live-then (g.D.Disk.seen c.args.self.now.disk) (g.D.Disk.seen c.write_all.new.self.disk) (g.D.Disk.seen c.settle.new.self.disk) c.args.self.now c.write_all.new.self c.settle.new.self true
    c.in_default.ensures.all c.in_default.ensures.keeps c.in-Ok.ensures.keeps
