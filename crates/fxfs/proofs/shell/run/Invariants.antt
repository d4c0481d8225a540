use Rattle.std.proofs.Common.{◌≡◌, ◌+◌, ◌≤◌, take, drop, length}
use Rattle.std.specs.Prelude.{vec_capacity}
use Rattle.fx_disk.specs.Seen.{GoesOn}
use Rattle.fx_plain.specs.Tree.{Tree}
use Rattle.fx_history.proofs.Sessions.{Follows}
use Rattle.fx_store.specs.Mounted.{Opens, SameMount}
use Rattle.fxfs.specs.Shell.{AreFull, AreTold, syncs_in}
use Rattle.fxfs.proofs.FaultsTold.{AreWithin}
use Rattle.fxfs.proofs.shell.run.Given as goal

abbrev pub invariant-loop-line : goal.invariant-loop-line
invariant-loop-line g l = record {
  follows : (opening : Tree) → Opens l.initial.store.txns opening → Follows opening l.initial.store.base l.store.history (take (length l.items.items) l.tasks) l.items.items;
  left : l.line-iterator ≡ drop (length l.items.items) l.tasks;
  few : length l.items.items ≤ length l.tasks;
  room : length l.tasks ≤ vec_capacity l.items;
  told : (opening : Tree) → Opens l.initial.store.txns opening → AreTold (g.D.Disk.seen l.initial.store.disk) (g.D.Disk.seen l.store.disk) l.items.items;
  most : (g.D.Disk.seen l.store.disk).calls + l.store.waiting + l.initial.store.live ≤ (g.D.Disk.seen l.initial.store.disk).calls + l.initial.store.waiting + l.store.live + syncs_in (take (length l.items.items) l.tasks);
  full : (opening : Tree) → Opens l.initial.store.txns opening → AreFull l.initial.store.ring l.initial.store.live l.initial.store.base l.items.items;
  within : AreWithin l.store.live l.items.items;
  low : l.initial.store.live ≤ l.store.live;
  live : l.store.live ≤ l.initial.store.live + length l.store.history;
  mount : SameMount l.initial.store l.store;
  goes : GoesOn (g.D.Disk.seen l.initial.store.disk) (g.D.Disk.seen l.store.disk);
}
