-- What a disk in memory is, and what its calls make of it.
use Rattle.std.specs.Prelude.{◌≡◌, ◌↔◌, ℕ, ◌+◌, ◌-◌, ◌^◌, ◌<◌, ◌≤◌, ◌⊎◌, min, Bool, true, false, if◌then◌else◌, Some, List, [], ◌∷◌, length, replicate, slice_index_or, slice_set}
use Rattle.std.specs.List.{Contains}
use Rattle.fx_disk.specs.Record.{DiskRecord, Write, Flush}
use Rattle.fx_base.specs.Causes.{risen}
use Rattle.fx_disk.specs.Steps.{with_write, with_flush}
use Rattle.fx_disk.specs.Seen.{DiskSeen}

-- The record of the disk, its counts, and the numbers of the calls and reads that are to fail.
pub record MemoryState : Type 0 where
  pub disk : DiskRecord
  pub reads : ℕ
  pub faults : ℕ
  pub starved : ℕ
  pub last_made : Bool
  pub fail_calls : List ℕ
  pub fail_reads : List ℕ

-- What is seen of the disk.
abbrev pub seen_in : MemoryState → DiskSeen
seen_in s = record {
  size = length s.disk.entry;
  told = Some s.disk;
  calls = length s.disk.calls;
  reads = s.reads;
  faults = s.faults;
  last_made = s.last_made;
}

-- A disk of this image before its first call.
abbrev pub fresh_state : List (List ℕ) → MemoryState
fresh_state image = record {
  disk = record { entry = image; calls = []; contents = image };
  reads = 0;
  faults = 0;
  starved = 0;
  last_made = true;
  fail_calls = [];
  fail_reads = [];
}

-- A write or a flush that is not made.
abbrev pub refused_state : MemoryState → MemoryState
refused_state s = record s { faults = risen s.faults; last_made = false }

-- The same for want of memory.
abbrev pub starved_state : MemoryState → MemoryState
starved_state s = record s { faults = risen s.faults; starved = risen s.starved; last_made = false }

-- A write or a flush that is made, after which the record is `disk`.
abbrev pub made_state : MemoryState → DiskRecord → Bool → MemoryState
made_state s disk ok =
    record s { disk = disk; faults = if ok then s.faults else risen s.faults; last_made = true }

-- The record after a write: one that fails leaves its block as it was.
abbrev pub written_record : DiskRecord → ℕ → List ℕ → Bool → DiskRecord
written_record r at bytes ok =
    with_write r at bytes ok (if ok then bytes else slice_index_or r.contents at [])

-- At 2^63 calls a further one is not made.
pub record IsAtLimit (s t : MemoryState) (ok : Bool) : Type 0 where
  pub full : 2 ^ 63 ≤ length s.disk.calls
  pub failed : ok ≡ false
  pub state : t ≡ refused_state s

-- Below that, a call for whose record memory was refused is not made.
pub record IsStarved (s t : MemoryState) (ok : Bool) : Type 0 where
  pub room : length s.disk.calls < 2 ^ 63
  pub failed : ok ≡ false
  pub state : t ≡ starved_state s

-- Every other call is made, and fails exactly where its number, from 1, is to fail.
pub record IsDone (s t : MemoryState) (ok : Bool) (disk : DiskRecord) : Type 0 where
  pub room : length s.disk.calls < 2 ^ 63
  pub listed : ok ≡ false ↔ Contains s.fail_calls (length s.disk.calls + 1)
  pub state : t ≡ made_state s disk ok

-- A write or a flush, after which, if it is made, the record is `disk`.
abbrev pub Asks : MemoryState → MemoryState → Bool → DiskRecord → Type 0
Asks s t ok disk = IsAtLimit s t ok ⊎ (IsStarved s t ok ⊎ IsDone s t ok disk)

-- The state after a read: below 2^63 reads it is made, and fails exactly where its number, from 1,
-- is to fail.
pub record IsAfterRead (s t : MemoryState) (ok : Bool) : Type 0 where
  pub failed : ok ≡ false ↔ ((2 ^ 63 ≤ s.reads) ⊎ Contains s.fail_reads (s.reads + 1))
  pub state : t ≡ record s {
    reads = min (s.reads + 1) (2 ^ 63);
    faults = if ok then s.faults else risen s.faults;
  }
