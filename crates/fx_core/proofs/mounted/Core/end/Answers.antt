use Rattle.std.proofs.Common.{subst}
use Rattle.std.specs.Prelude.{IfSome}
use Rattle.fx_core.specs.Core.{CoreState, LeavesHistory}
use Rattle.fx_core.proofs.Begun.{core_images}
use Rattle.fx_core.proofs.mounted.Core.end.Goals as goal

pub returns-clause-images : goal.returns-clause-images
returns-clause-images g c = subst (λ (v : CoreState g.row.D.Denot). IfSome (g.D.Disk.seen c.self.inside.disk).told (LeavesHistory (g.D.Disk.seen c.self.inside.disk).size v.from v.txns v.numbers)) c.self.view_is (core_images c.self.inside.numbers c.self.invariant)
