use Rattle.std.proofs.Common.{◌≡◌, ◌+◌, ◌-◌, ◌≤◌, length, vec_len}
use Rattle.fx_journal.specs.Stream.{IsRun}
use Rattle.fx_worked.proofs.walking.stream_in.Given as goal

abbrev pub invariant-walking : goal.invariant-walking
invariant-walking l = record {
  run : IsRun l.image l.ring l.generation l.fn.start l.blocks.items l.next;
  sequence : l.next.sequence ≡ l.fn.start.sequence + length l.blocks.items;
  few : length l.blocks.items ≤ l.ring;
}

abbrev pub decreases-walking : goal.decreases-walking
decreases-walking l = l.ring - vec_len l.blocks
