use Rattle.std.proofs.Common.{◌≡◌, ◌<◌, ◌≤◌, ℕ, subst, sym, length, List, [], map, ap, arith, lit<, lit≤}
use Rattle.fx_disk.specs.Steps.{IsRecordOf}
use Rattle.fx_disks.specs.Calls.{call_of, record_from}
use Rattle.fx_disks.specs.declared.call.Made.{Made}
use Rattle.fx_disks.proofs.Holding.{IsIndex-fresh, recorded-fresh}
use Rattle.fx_disks.proofs.memory.MemDisk.from_image.Goals as goal

pub invariant_of-result : goal.invariant_of-result
invariant_of-result c = record {
  recorded = rw c.new.ensures.items (recorded-fresh _ (rw c.into_blocks.ensures.value c.into_blocks.ensures.blocks));
  indexed = rw (c.new.ensures.items, c.new-2.ensures.items) (IsIndex-fresh _);
  few_blocks = rw c.into_blocks.ensures.value c.requires;
  few_calls = rw c.new.ensures.items (lit≤ tt);
  few_reads = lit≤ tt;
  few_faults = lit< tt;
}
