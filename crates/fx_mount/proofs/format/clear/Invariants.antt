use Rattle.std.proofs.Common.{◌≡◌, ◌+◌, true}
use Rattle.fx_disk.specs.Longer.{BothTell}
use Rattle.fx_disk.specs.Seen.{HasCalled}
use Rattle.fx_mount.specs.Laying.{KeepsFirst}
use Rattle.fx_mount.proofs.format.clear.Given as goal

abbrev pub invariant-loop-at : goal.invariant-loop-at
invariant-loop-at g l = record {
  calls : (g.D.Disk.seen l.disk).calls + 1 ≡ (g.D.Disk.seen l.initial.disk).calls + l.at;
  called : HasCalled (g.D.Disk.seen l.initial.disk) (g.D.Disk.seen l.disk) true;
  laid : BothTell (KeepsFirst l.at) (g.D.Disk.seen l.initial.disk).told (g.D.Disk.seen l.disk).told;
}
