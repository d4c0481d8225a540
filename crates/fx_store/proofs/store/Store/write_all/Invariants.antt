use Rattle.std.proofs.Common.{◌≡◌, ◌+◌, true}
use Rattle.fx_disk.specs.Seen.{HasCalled}
use Rattle.fx_store.specs.Mounted.{SameMount}
use Rattle.fx_store.proofs.store.Store.write_all.Given as goal

abbrev pub invariant-loop-fault : goal.invariant-loop-fault
invariant-loop-fault g l = record {
  count : (g.D.Disk.seen l.self.disk).calls + l.self.waiting ≡ (g.D.Disk.seen l.fn.self.disk).calls + l.fn.self.waiting;
  history : l.self.history ≡ l.fn.self.history;
  live : l.self.live ≡ l.fn.self.live;
  mount : SameMount l.fn.self l.self;
  called : HasCalled (g.D.Disk.seen l.fn.self.disk) (g.D.Disk.seen l.self.disk) true;
}

abbrev pub decreases-loop-fault : goal.decreases-loop-fault
decreases-loop-fault g l = l.self.waiting
