use Rattle.std.proofs.Common.{subst}
use Rattle.fx_store.specs.Mounted.{LeavesSettled, State}
use Rattle.fx_store.proofs.Stores.{store-by-now, store-images}
use Rattle.fx_store.proofs.store.Store.end.Goals as goal

pub returns-clause-leaves : goal.returns-clause-leaves
returns-clause-leaves g c =
    subst (λ (v : State g.row.D.Denot). LeavesSettled (g.D.Disk.seen c.self.inside.disk) v v.history) c.self.view_is
    (record { images = store-images c.self.invariant; by_now = store-by-now c.self.invariant })
