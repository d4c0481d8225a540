-- The state of a mounted disk with a journal: the journal, what the disk has of it, and the ring
-- that holds its blocks that are not written yet.
use Rattle.std.specs.Prelude.{◌≤◌}
use Rattle.std.specs.Option.{IfSome}
use Rattle.fx_disk.specs.Seen.{DiskSeen}
use Rattle.fx_journal.specs.Ring.{RingState}
use Rattle.fx_pool.specs.Region.{Region}
use Rattle.fx_supers.specs.InMemory.{IsRingFor}
use Rattle.fx_supers.specs.SessionLog.{epoch_of}
use Rattle.fx_image.specs.Journal.{Journal, IsJournal, IsOnDisk}

-- The journal of a disk of which this is seen, with this ring, whose buffers lie in this region. The
-- superblock was raised for it.
pub record IsMounted (j : Journal) (seen : DiskSeen) (ring : RingState) (region : Region)
    : Type 0 where
  pub journal : IsJournal j seen.calls
  pub disk : IfSome seen.told (IsOnDisk j)
  pub ring_is : IsRingFor j.log ring region
  pub raised : epoch_of j.log.head ≤ j.log.supers.current.super.generation
