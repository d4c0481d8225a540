-- What a store begins with.
use Rattle.std.specs.Prelude.{◌≡◌, ℕ, ◌+◌, ◌^◌, ◌≤◌, Bool, true, false, Result, Ok, Err, List, [], length}
use Rattle.std.specs.Option.{IfSome}
use Rattle.fx_item.specs.Look.{next_id_after, next_store_after}
use Rattle.fx_disk.specs.Record.{DiskRecord}
use Rattle.fx_disk.specs.Seen.{DiskSeen, HasCalled, HasFailedLast}
use Rattle.fx_plain.specs.Tree.{Tree, node_count}
use Rattle.fx_super.specs.Super.{Fields, fields_of}
use Rattle.fx_super.specs.Chosen.{IsChosen}
use Rattle.fx_super.specs.declared.choice.Which.{Which}
use Rattle.fx_jblock.specs.declared.Start.{Start}
use Rattle.fx_journal.specs.Ring.{RingState, blocks_out}
use Rattle.fx_journal.specs.Stream.{IsStream}
use Rattle.fx_journal.specs.declared.stream.StreamBlock.{StreamBlock}
use Rattle.fx_pool.specs.Region.{IsSound, Region}
use Rattle.fx_record.specs.Txns.{txns_of}
use Rattle.fx_log.specs.Chosen.{next_generation, start_of}
use Rattle.fx_image.specs.Standing.{StandsFor, Transactions, items_after, lists_of}
use Rattle.fx_image.specs.Journal.{HasJournal, HasOpened, IsReading, Journal, new_journal}
use Rattle.fx_log.specs.Raising.{ChoosesNext, ChoosesSince}
use Rattle.fx_supers.specs.Supers.{Supers, only_supers}
use Rattle.fx_store.specs.Inside.{HasBuffers}
use Rattle.fx_store.specs.declared.opening.TheConstants.{MAX_OPENING_NODES}
use Rattle.fx_store.specs.Mounted.{State}
use Rattle.fx_store.specs.Session.{IsSessionOf, KnowsNodes}
use Rattle.fx_store.specs.declared.opening.BeginFault.{BeginFault}
use Rattle.fx_store.specs.declared.opening.BeginFault.TheVariants as begins
use Rattle.fx_store.specs.declared.opening.Contents.{Contents}
use Rattle.fx_store.specs.declared.opening.Found.{Found}
use Rattle.fx_store.specs.declared.opening.NotBegun.{NotBegun}
use Rattle.fx_store.specs.declared.session.Session.{Session}

-- This was read of a disk of so many blocks with that superblock: the stream's blocks, up to the
-- next place; their transactions; the tree that these make, which is small, with the node of each
-- path; and the first numbers that nothing has used.
pub record IsRead (seen : DiskSeen) (f : Fields) (c : Contents) : Type 0 where
  pub blocks : List StreamBlock
  pub closed_is : length blocks ≡ c.closed
  pub few : length blocks ≤ f.ring
  pub reading : IsReading seen.size c.base f blocks c.next (txns_of c.txns)
  pub stands : StandsFor (items_after (txns_of c.txns)) c.tree
  pub small : node_count c.tree ≤ MAX_OPENING_NODES
  pub stream : IfSome seen.told
      (λ r. IsStream r.contents f.ring f.generation (start_of f) blocks c.next)
  pub knows : KnowsNodes (items_after (txns_of c.txns)) c.nodes
  pub next_id : c.next_id ≡ next_id_after f.next_id (lists_of (txns_of c.txns))
  pub next_store : c.next_store ≡ next_store_after f.next_store (lists_of (txns_of c.txns))

-- This superblock of the disk is chosen, where it tells.
abbrev pub TellsChosen : DiskSeen → Which → Fields → Type 0
TellsChosen seen chosen f = IfSome seen.told (λ r. IsChosen r.contents chosen f)

-- A store can begin on the disk: this is its chosen superblock, and that was read of it.
pub record CanBegin (seen : DiskSeen) (found : Found) (c : Contents) : Type 0 where
  pub chosen : TellsChosen seen found.chosen (fields_of found.sup)
  pub read : IsRead seen (fields_of found.sup) c

-- A store that began on the disk with what was read of it, by two calls: nothing was committed yet,
-- and no block waits.
pub record HasBegun {Device : Type 0} (before after : DiskSeen) (found : Found) (c : Contents)
    (store : State Device) : Type 0 where
  pub from : store.from ≡ before.calls
  pub base : store.base ≡ c.base
  pub txns : store.txns ≡ txns_of c.txns
  pub history : store.history ≡ []
  pub ring : store.ring ≡ found.sup.ring
  pub live : store.live ≡ c.closed + 1
  pub waiting : store.waiting ≡ 0
  pub calls : after.calls ≡ before.calls + 2
  pub called : HasCalled before after true

-- Why a store was not begun: a call of the disk failed, that which was last asked for; or there was
-- no memory, and the disk is as it was.
abbrev pub IsBeginCause : {Device : Type 0} → Device → DiskSeen → NotBegun Device → DiskSeen
    → BeginFault → Type 0
IsBeginCause disk before un after begins.Device = HasCalled before after false × HasFailedLast after
IsBeginCause disk before un after begins.OutOfMemory = un.disk ≡ disk

-- The disk that a beginning leaves, and whether it is begun.
abbrev pub disk_left : {Device : Type 0} → Result (State Device) (NotBegun Device) → Device
disk_left (Ok store) = store.disk
disk_left (Err un) = un.disk

-- ---- the journal of a store that begins

-- what was read, as plain data: the tree, the number of the last commit, the stream's blocks with
-- the place after them, and their transactions
pub record Read : Type 0 where
  pub tree : Tree
  pub base : ℕ
  pub blocks : List StreamBlock
  pub place : Start
  pub txns : Transactions

abbrev pub read_from : Contents → List StreamBlock → Read
read_from c blocks = record {
  tree = c.tree;
  base = c.base;
  blocks = blocks;
  place = c.next;
  txns = txns_of c.txns;
}

-- the journal that goes on from it, with these superblocks
abbrev pub journal_of : (size from : ℕ) → Fields → Read → Supers → Journal
journal_of size from f read supers =
    new_journal size from read.tree read.base f read.blocks read.place read.txns supers

-- This was read of a disk of so many blocks with that superblock, and it fits together.
pub record FitsTogether (size : ℕ) (f : Fields) (read : Read) : Type 0 where
  pub few : length read.blocks ≤ f.ring
  pub reading : IsReading size read.base f read.blocks read.place read.txns
  pub stands : StandsFor (items_after read.txns) read.tree
  pub small : node_count read.tree ≤ MAX_OPENING_NODES

-- The blocks are the stream of the disk.
abbrev pub IsOn : Fields → Read → DiskRecord → Type 0
IsOn f read r = IsStream r.contents f.ring f.generation (start_of f) read.blocks read.place

-- What the disk has while its superblock is raised to the next generation, and after: the one or
-- the other is chosen, and the journal goes on from what was read.
pub record Raises (before after : DiskSeen) (f : Fields) : Type 0 where
  pub since : IfSome after.told (ChoosesSince before.calls)
  pub journal : (read : Read) → FitsTogether before.size f read → IfSome before.told (IsOn f read)
      → IfSome after.told (HasOpened before.size before.calls read.tree read.base f
      read.blocks read.place read.txns)

-- What it has once that is done: the superblock of the next generation is chosen, which stands in
-- this one of the two blocks, and the journal goes on from what was read.
pub record HasRaised (before after : DiskSeen) (f : Fields) (slot : Which) : Type 0 where
  pub next : IfSome after.told (ChoosesNext before.calls)
  pub journal : (read : Read) → FitsTogether before.size f read → IfSome before.told (IsOn f read)
      → IfSome after.told (HasJournal (journal_of before.size before.calls f read
      (only_supers (next_generation f) slot)))

-- So many calls were made and were good; or one failed, that which was last asked for, and no more
-- were made.
abbrev pub MakesCalls : ℕ → DiskSeen → DiskSeen → Bool → Type 0
MakesCalls count before after true =
    (after.calls ≡ before.calls + count) × HasCalled before after true
MakesCalls count before after false = (after.calls ≤ before.calls + count)
    × HasCalled before after false × HasFailedLast after

-- The pool is whole and free, and has one block more than a ring of this length.
pub record IsPoolFor (ring : ℕ) (pool : Region) : Type 0 where
  pub sound : IsSound pool
  pub free : blocks_out pool ≡ 0
  pub enough : ring + 1 ≤ 2 ^ pool.order

-- the ring that goes on from it
abbrev pub ring_of : Fields → Read → RingState
ring_of f read = record {
  start = start_of f;
  size = f.ring;
  epoch = f.generation + 1;
  closed = length read.blocks;
  chain = read.place.chain;
  text = [];
  promised = 0;
  queued = 0;
  buffers = [];
}

-- All memory that a store begins with is there.
pub record IsPrepared (size : ℕ) (f : Fields) (read : Read)
    (s : Session) (ring : RingState) (pool : Region) : Type 0 where
  pub session : (from : ℕ) (supers : Supers) → IsSessionOf (journal_of size from f read supers) s
  pub ring_is : ring ≡ ring_of f read
  pub buffers : HasBuffers ring pool
