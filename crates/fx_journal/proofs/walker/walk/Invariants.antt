use Rattle.std.proofs.Common.{◌≡◌, ◌+◌, ◌-◌, ◌≤◌, length, vec_len}
use Rattle.std.specs.Option.{IfSome}
use Rattle.fx_disk.specs.Seen.{HasOnlyRead}
use Rattle.fx_journal.specs.Stream.{IsRun, IsSeries}
use Rattle.fx_journal.proofs.walker.walk.Given as goal

abbrev pub invariant-reading : goal.invariant-reading
invariant-reading g l = record {
  run : IfSome (g.D.Disk.seen l.disk).told (λ r. IsRun r.contents l.ring l.generation l.fn.start l.items.items l.next);
  series : IsSeries l.generation l.fn.start l.items.items l.next;
  sequence : l.next.sequence ≡ l.fn.start.sequence + length l.items.items;
  few : length l.items.items ≤ l.ring;
  disk : HasOnlyRead (g.D.Disk.seen l.fn.disk) (g.D.Disk.seen l.disk);
  reads : (g.D.Disk.seen l.disk).reads ≡ (g.D.Disk.seen l.fn.disk).reads + length l.items.items;
  faults : (g.D.Disk.seen l.disk).faults ≡ (g.D.Disk.seen l.fn.disk).faults;
}

abbrev pub decreases-reading : goal.decreases-reading
decreases-reading g l = l.ring - vec_len l.items
