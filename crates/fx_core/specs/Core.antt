-- What is seen of a mounted core.
use Rattle.std.specs.Prelude.{IfSome, ◌≡◌, ◌⊎◌, ℕ, ◌+◌, ◌<◌, ◌≤◌, List, [], length, reverse, replicate, get_or, set}
use Rattle.fx_item.specs.Item.{PlainItem}
use Rattle.fx_item.specs.declared.space.Need.{Need}
use Rattle.fx_plain.specs.Tree.{Tree, root}
use Rattle.fx_disk.specs.Record.{DiskRecord}
use Rattle.fx_journal.specs.Ring.{Appended, Cancels, HoldsQueue, Promises, Queued, RingState, live, want, without_first}
use Rattle.fx_record.specs.Record.{TransactionRecord, record_bytes}
use Rattle.fx_history.specs.declared.entry.Entry.{Entry}
use Rattle.fx_events.specs.Notes.{history_in, settled_upto}
use Rattle.fx_image.specs.Standing.{StandsFor, Transactions, items_after, lists_of}
use Rattle.fx_image.specs.Prefix.{KeepsPrefix}
use Rattle.fx_log.specs.Chosen.{next_generation, start_of}
use Rattle.fx_log.specs.Raising.{ChoosesNext, ChoosesSince}
use Rattle.fx_parts.specs.Happening.{Count, Mark}
use Rattle.fx_numbers.specs.State.{IsOpened, IsStep, NumbersState, lists_in}
use Rattle.fx_numbers.specs.declared.given.Found.{Found}
use Rattle.fx_layerset.specs.Levels.{SetLevels}
use Rattle.fx_item.specs.Look.{next_id_after, next_store_after}
use Rattle.fx_plain.specs.Bare.{bare}
use Rattle.fx_namespace.specs.Nodes.{NodeId}
use Rattle.fx_disk.specs.Seen.{DiskSeen}
use Rattle.fx_pool.specs.Region.{Region}
use Rattle.fx_super.specs.Super.{Fields}
use Rattle.fx_super.specs.Chosen.{other}
use Rattle.fx_super.specs.declared.choice.Which.{Which}
use Rattle.fx_jblock.specs.declared.Start.{Start}
use Rattle.fx_journal.specs.declared.stream.StreamBlock.{StreamBlock}
use Rattle.fx_supers.specs.Supers.{Supers, only_supers}
use Rattle.fx_image.specs.Journal.{IsOnDisk, max_given, new_journal}
use Rattle.fx_image.specs.Mounted.{IsMounted}
use Rattle.fx_parts.specs.Live.{IsUnusedNode, live_in_lists}
use Rattle.fx_parts.specs.Parts.{IsNotGiven, Part}
use Rattle.fx_core.specs.Inside.{GivenLimits}
use Rattle.fx_core.specs.Logged.{IsWritable}
use Rattle.fx_core.specs.Tail.{HasRingBuffers, TailState, last_in, reach}
use Rattle.fx_core.specs.declared.reserving.ReserveRefusal.{ReserveRefusal}
use Rattle.fx_core.specs.declared.reserving.ReserveRefusal.TheVariants as refusals
use Rattle.fx_journal.specs.Writing.{counts}

-- The disk, its count of calls at the mount, the transactions that the mount found, how far ids and
-- stores are given out, what the numbers share, and the ring in memory.
pub record CoreState (Device : Type 0) : Type 0 where
  pub disk : Device
  pub from : ℕ
  pub txns : Transactions
  pub end : GivenLimits
  pub numbers : NumbersState
  pub tail : TailState

-- the transactions that were found stand for this tree, without what files hold
abbrev pub OpensAs : Transactions → Tree → Type 0
OpensAs txns tree = StandsFor (items_after txns) tree

-- What a stop leaves at each moment since the mount: the superblock of the mount or the one before
-- it, and the tree after a prefix of the history with all that was settled.
pub record LeavesHistory (size from : ℕ) (txns : Transactions) (numbers : NumbersState)
    (r : DiskRecord) : Type 0 where
  pub super : ChoosesSince from r
  pub next : ChoosesNext from r
  pub prefix : (tree : Tree) → OpensAs txns tree
      → KeepsPrefix size from tree numbers.kept (history_in numbers.notes) r

-- ---- what calls do

-- the items of a commit, and its record under some number
pub record IsPreparedFor (who : ℕ) (entry : Entry) (text : List ℕ) (items : List PlainItem)
    (part : Part) : Type 0 where
  pub writable : IsWritable part entry items
  pub number : ℕ
  pub text_is : text ≡ record_bytes (TransactionRecord number items)
  pub room : length text ≤ writable.planned.r.bytes
  pub client : entry.who ≡ who
  pub unsettled : entry.settled ≡ 0

-- ids or stores are used up
abbrev pub AreSpent : {Device : Type 0} → CoreState Device → Need → Type 0
AreSpent s need =
    (s.end.ids < s.numbers.ids + need.nodes) ⊎ (s.end.stores < s.numbers.stores + need.nodes)

-- the ring has no place for so many record bytes more
abbrev pub HasNoPlace : RingState → ℕ → Type 0
HasNoPlace ring bytes = ring.size < live ring + ring.promised + want bytes + 1

-- why nothing was reserved, the first that is so
abbrev pub IsReserveCause : {Device : Type 0} → CoreState Device → Need → ℕ → ReserveRefusal
    → Type 0
IsReserveCause s need bytes refusals.Spent = AreSpent s need
IsReserveCause s need bytes (refusals.Full full) =
    (AreSpent s need → ⊥) × HasNoPlace s.tail.ring bytes × (full ≡ counts s.tail.ring bytes)
IsReserveCause s need bytes refusals.OutOfMemory =
    (AreSpent s need → ⊥) × (HasNoPlace s.tail.ring bytes → ⊥)

-- Nothing has changed but which buffers are out.
pub record IsUnreserved {Device : Type 0} (old new : CoreState Device) : Type 0 where
  pub rest : new ≡ record old { numbers = new.numbers; tail = new.tail }
  pub numbers : new.numbers ≡ old.numbers
  pub tail : new.tail ≡ record old.tail { ring = new.tail.ring; pool = new.tail.pool }
  pub ring : new.tail.ring ≡ record old.tail.ring { buffers = new.tail.ring.buffers }

-- So many blocks of the ring are promised to the number.
pub record HasPromised (old new : TailState) (who count : ℕ) : Type 0 where
  pub ring : Promises old.ring new.ring old.pool new.pool count
  pub rest : new ≡ record old {
    ring = new.ring;
    pool = new.pool;
    wants = set old.wants who count;
  }

-- What was promised to the number is given back.
pub record HasCancelled (old new : TailState) (who : ℕ) : Type 0 where
  pub ring : Cancels old.ring new.ring old.pool new.pool (get_or old.wants who 0)
  pub rest : new ≡ record old { ring = new.ring; pool = new.pool; wants = set old.wants who 0 }

-- The record of the commit waits, behind all that waited. What was promised to the number is used up
-- or given back.
pub record HasAppended (old new : TailState) (who commit : ℕ) (text : List ℕ) : Type 0 where
  pub queue : (queue : List Queued) → HoldsQueue old.ring old.pool queue
      → Appended old.ring new.ring new.pool queue text
  pub promised : new.ring.promised + get_or old.wants who 0 ≡ old.ring.promised
  pub rest : new ≡ record old {
    ring = new.ring;
    pool = new.pool;
    wants = set old.wants who 0;
    reached = set old.reached (reach new.ring) commit;
  }

-- One block more is written, and with it the commits whose records end there.
pub record HasWrittenOne (old new : TailState) : Type 0 where
  pub ring : new.ring ≡ without_first old.ring
  pub rest : new ≡ record old {
    ring = new.ring;
    pool = new.pool;
    written = old.written + 1;
    done = last_in old.reached (old.written + 1) old.done;
  }

-- The disk's faults are counted; then the commits up to this one are settled by so many calls, where
-- some of them were not.
pub record HasMarked (old new : NumbersState) (faults done calls : ℕ) : Type 0 where
  pub counted : NumbersState
  pub count : IsStep old counted (Count faults)
  pub mark : settled_upto old.kept old.notes < done → IsStep counted new (Mark done calls)
  pub still : done ≤ settled_upto old.kept old.notes → new ≡ counted

-- the entry under this number
abbrev pub numbered_entry : ℕ → Entry → Entry
numbered_entry number entry = record entry { number = number }

-- ---- the beginning

-- A mounted disk with the transactions of its image alone: what was found, the journal that goes on
-- from there, with its ring and the buffers of that, and levels that hold the transactions, one list
-- each. No item stands under what was not given out.
pub record BeginsCore (seen : DiskSeen) (from : ℕ) (txns : Transactions) (found : Found)
    (levels : SetLevels) (ring : RingState) (pool : Region) : Type 0 where
  pub tree : Tree
  pub super : Fields
  pub read : List StreamBlock
  pub place : Start
  pub supers : Supers
  pub stands : StandsFor (items_after txns) tree
  pub is_bare : tree ≡ bare tree
  pub mounted : IsMounted
      (new_journal seen.size from tree found.kept super read place txns supers) seen ring pool
  pub lists : lists_in levels ≡ reverse (lists_of txns)
  pub ids : found.ids ≡ next_id_after super.next_id (lists_of txns)
  pub stores : found.stores ≡ next_store_after super.next_store (lists_of txns)
  pub unused : (node : NodeId) → IsNotGiven found.ids found.stores node
      → IsUnusedNode (live_in_lists (lists_in levels)) node
  pub base : found.base ≡ super.base
  pub blocks : found.blocks ≡ seen.size
  pub faults : found.faults ≡ seen.faults
  pub size : found.ring ≡ ring.size
  pub buffers : HasRingBuffers ring pool
  pub promised : ring.promised ≡ 0
  pub queued : ring.queued ≡ 0
  pub text : ring.text ≡ []

-- A core that has just begun: nothing happened yet.
pub record HasBegunCore {Device : Type 0} (disk : Device) (from : ℕ) (txns : Transactions)
    (found : Found) (levels : SetLevels) (ring : RingState) (pool : Region)
    (s : CoreState Device) : Type 0 where
  pub disk_is : s.disk ≡ disk
  pub from_is : s.from ≡ from
  pub txns_is : s.txns ≡ txns
  pub end_is : s.end ≡ record {
    ids = found.ids + max_given;
    stores = found.stores + max_given;
  }
  pub numbers : IsOpened found levels s.numbers
  pub tail_is : s.tail ≡ record {
    ring = ring;
    pool = pool;
    wants = replicate 33 0;
    reached = replicate (found.ring + 2) 0;
    written = ring.closed;
    done = found.kept;
  }

-- ---- the first beginning

-- What is found of a disk with this superblock and no transaction.
pub record IsFoundFirst (seen : DiskSeen) (f : Fields) (found : Found) : Type 0 where
  pub kept : found.kept ≡ f.base
  pub base : found.base ≡ f.base
  pub blocks : found.blocks ≡ seen.size
  pub ids : found.ids ≡ f.next_id
  pub stores : found.stores ≡ f.next_store
  pub faults : found.faults ≡ seen.faults
  pub ring : found.ring ≡ f.ring

-- Where the disk tells its bytes, the journal that begins there is on it: this superblock was chosen at
-- its place, and its next generation was written to the other one.
pub record IsFirstDisk (seen : DiskSeen) (f : Fields) : Type 0 where
  pub which : Which
  pub on_disk : IfSome seen.told (IsOnDisk (new_journal seen.size seen.calls root f.base f []
      (start_of f) [] (only_supers (next_generation f) (other which))))

-- The ring goes on from the superblock's place, under the next generation, and has nothing.
abbrev pub IsFirstRing : Fields → RingState → Type 0
IsFirstRing f ring = ring ≡ record {
  start = start_of f;
  size = f.ring;
  epoch = f.generation + 1;
  closed = 0;
  chain = (start_of f).chain;
  text = [];
  promised = 0;
  queued = 0;
  buffers = [];
}
