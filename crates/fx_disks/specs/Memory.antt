-- What a disk in memory shows.
use Rattle.std.specs.Prelude.{ℕ, List, map}
use Rattle.fx_disk.specs.Record.{DiskRecord}
use Rattle.fx_disks.specs.Calls.{call_of, record_from}
use Rattle.fx_disks.specs.State.{MemoryState}
use Rattle.fx_disks.specs.declared.memory.MemDisk.{MemDisk}

abbrev pub told_of : MemDisk → DiskRecord
told_of d = record_from d.entry.items (map call_of d.calls.items)

abbrev pub memory_state : MemDisk → MemoryState
memory_state d = record {
  disk = told_of d;
  reads = d.reads;
  faults = d.faults;
  starved = d.starved;
  last_made = d.last_made;
  fail_calls = d.fail_calls;
  fail_reads = d.fail_reads;
}
