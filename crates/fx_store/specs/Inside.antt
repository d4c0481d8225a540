-- What a mounted disk keeps inside: its session, and the ring with the pool of its buffers, are
-- those of one journal.
use Rattle.std.specs.Prelude.{◌≡◌, ℕ, ◌+◌, ◌^◌, ◌≤◌, ◌<◌, List, [], ◌∷◌, ◌++◌, length}
use Rattle.fx_plain.specs.Table.{do_step}
use Rattle.fx_plain.specs.Tree.{node_count}
use Rattle.fx_disk.specs.Seen.{DiskSeen}
use Rattle.fx_pool.specs.Region.{Region}
use Rattle.fx_journal.specs.Ring.{RingState, IsRing, KeepsBuffers, Queued, HoldsQueue, Appended, blocks_out, live}
use Rattle.fx_item.specs.declared.full.Full.{Full}
use Rattle.fx_image.specs.Standing.{StandsFor, items_after}
use Rattle.fx_image.specs.Journal.{Journal, opening_id, opening_store}
use Rattle.fx_image.specs.Mounted.{IsMounted}
use Rattle.fx_store.specs.Session.{IsSessionOf}
use Rattle.fx_store.specs.Line.{change_entry}
use Rattle.fx_store.specs.declared.commit.Change.{Change}
use Rattle.fx_store.specs.declared.commit.Commit.{Commit}
use Rattle.fx_store.specs.declared.opening.TheConstants.{MAX_OPENING_NODES}
use Rattle.fx_store.specs.declared.put.PutEnd.{PutEnd}
use Rattle.fx_store.specs.declared.put.PutEnd.TheVariants as ends
use Rattle.fx_store.specs.declared.session.Session.{Session}

-- The ring has its buffers out of the pool, which has one more for each of its blocks. Nothing is
-- promised.
pub record HasBuffers (ring : RingState) (pool : Region) : Type 0 where
  pub ring_is : IsRing ring
  pub buffers : KeepsBuffers ring.buffers pool
  pub out : blocks_out pool ≡ length ring.buffers
  pub enough : ring.size + 1 ≤ 2 ^ pool.order
  pub promised : ring.promised ≡ 0

-- Each commit used at most one more id and one more store.
pub record HasGiven (j : Journal) (s : Session) : Type 0 where
  pub ids : s.next.id ≤ opening_id j + length s.history.items
  pub stores : s.next.store ≤ opening_store j + length s.history.items

-- The state of a disk that was mounted after `from` calls.
pub record IsStore (seen : DiskSeen) (from : ℕ) (s : Session) (ring : RingState) (pool : Region)
    : Type 0 where
  pub journal : Journal
  pub size_is : journal.log.size ≡ seen.size
  pub from_is : journal.log.from ≡ from
  pub opens : StandsFor (items_after journal.opening.txns) journal.opening.tree
  pub mounted : IsMounted journal seen ring pool
  pub session : IsSessionOf journal s
  pub given : HasGiven journal s
  pub small : node_count s.tree ≤ MAX_OPENING_NODES + length s.history.items
  pub buffers : HasBuffers ring pool

-- ---- a commit that is ready is done, or refused

-- The ring has no place for one more block.
pub record IsFull (ring : RingState) (full : Full) : Type 0 where
  pub counts : full ≡ record { live = live ring; promised = 0; want = 1 }
  pub no_place : ring.size < live ring + 2

-- Nothing changed but which buffers are out.
pub record Undone (s t : Session) (ring new : RingState) (pool region : Region) : Type 0 where
  pub session : t ≡ s
  pub ring_is : new ≡ record ring { buffers = new.buffers }
  pub queue : (queue : List Queued) → HoldsQueue ring pool queue → HoldsQueue new region queue
  pub buffers : HasBuffers new region

-- The step is done, the history has the entry, and the record's bytes were appended.
pub record Done (change : Change) (commit : Commit)
    (s t : Session) (ring new : RingState) (pool region : Region) : Type 0 where
  pub session : t ≡ record s {
    tree = (do_step s.tree change.step).1;
    history = t.history;
    next = commit.next;
  }
  pub history : t.history.items ≡ s.history.items ++ change_entry commit.number change ∷ []
  pub appended : (queue : List Queued) → HoldsQueue ring pool queue
      → Appended ring new region queue commit.record.items
  pub queued : new.queued + ring.closed ≡ ring.queued + new.closed
  pub start : new.start ≡ ring.start
  pub size : new.size ≡ ring.size
  pub epoch : new.epoch ≡ ring.epoch
  pub buffers : HasBuffers new region
  pub place : live ring + 2 ≤ ring.size
  pub live_stays : live ring ≤ live new
  pub live_rises : live new ≤ live ring + 1

abbrev pub Puts : Change → Commit → (s t : Session) → (ring new : RingState)
    → (pool region : Region) → PutEnd → Type 0
Puts change commit s t ring new pool region ends.Done =
    Done change commit s t ring new pool region
Puts change commit s t ring new pool region (ends.Full full) =
    Undone s t ring new pool region × IsFull ring full
Puts change commit s t ring new pool region ends.OutOfMemory = Undone s t ring new pool region
