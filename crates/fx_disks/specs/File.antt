-- A disk over a file: before its first call, what is seen of it, and a call that it refuses.
use Rattle.std.specs.Prelude.{◌≡◌, Bool, true, false, None}
use Rattle.fx_base.specs.Causes.{risen}
use Rattle.fx_disk.specs.Seen.{DiskSeen}
use Rattle.fx_disks.specs.declared.file.FileDisk.{FileDisk}

pub record IsUnused (writable : Bool) (d : FileDisk) : Type 0 where
  pub calls : d.calls ≡ 0
  pub reads : d.reads ≡ 0
  pub faults : d.faults ≡ 0
  pub last_made : d.last_made ≡ true
  pub writable_is : d.writable ≡ writable

abbrev pub seen_of : FileDisk → DiskSeen
seen_of d = record {
  size = d.blocks;
  told = None;
  calls = d.calls;
  reads = d.reads;
  faults = d.faults;
  last_made = d.last_made;
}

-- A write or a flush that was not made: it fails, and nothing else changes.
pub record IsHeldBack (before after : FileDisk) (good : Bool) : Type 0 where
  pub failed : good ≡ false
  pub faults : after.faults ≡ risen before.faults
  pub last_made : after.last_made ≡ false
  pub calls : after.calls ≡ before.calls
  pub reads : after.reads ≡ before.reads
  pub blocks : after.blocks ≡ before.blocks
  pub writable : after.writable ≡ false
