-- What is so of every shared state, whatever events led to it.
use Rattle.std.specs.Prelude.{◌≡◌, ◌≢◌, ℕ, ◌+◌, ◌≤◌, List, Some, slice_get}
use Rattle.std.specs.FinMap as finite
use Rattle.std.specs.Ordering.{nat_cmp}
use Rattle.fx_item.specs.declared.lock.LockKey.{LockKey}
use Rattle.fx_keys.specs.Table.{IsConsistent, Table, mode_of, room_of}
use Rattle.fx_keys.specs.declared.table.TheConstants.{MAX_NUMBERS}
use Rattle.fx_plain.specs.Tree.{Tree}
use Rattle.fx_history.specs.History.{tree_at}
use Rattle.fx_namespace.specs.Nodes.{NodeId}
use Rattle.fx_events.specs.Notes.{AreNotes, Mounted, Note, entries_in, last_commit, tree_in}
use Rattle.fx_parts.specs.Live.{AgreeAll, AgreeAt, IsNodeThere, IsUnusedNode, LiveMap, live_in_lists}
use Rattle.fx_parts.specs.Parts.{Grant, IsGivenNode, IsNotGiven, IsPartOf, Part, Reservation, SharedState, TakenSnapshot, live_now, mode_by, room_by}

-- What it means that items make a tree is an argument, `Makes`: names alone today (`MakesNames`).

-- A snapshot makes the tree after the commits up to its point. At the last point it has what stands
-- now.
pub record IsSnapshotSound (Makes : LiveMap → Tree → Type 0) (mounted : Mounted)
    (notes : List Note) (now : LiveMap) (snapshot : TakenSnapshot) : Type 0 where
  pub from : mounted.kept ≤ snapshot.point
  pub upto : snapshot.point ≤ last_commit mounted.kept notes
  pub makes : Makes (live_in_lists snapshot.lists)
      (tree_at mounted.tree (entries_in notes) snapshot.point)
  pub current : snapshot.point ≡ last_commit mounted.kept notes
      → AgreeAll (live_in_lists snapshot.lists) now

-- What was reserved was given out, and no item of a new node stands.
pub record IsReservationSound (now : LiveMap) (ids stores : ℕ) (r : Reservation) : Type 0 where
  pub first_id : 1 ≤ r.id
  pub first_store : 1 ≤ r.store
  pub given_ids : r.id + r.need.nodes ≤ ids
  pub given_stores : r.store + r.need.nodes ≤ stores
  pub unused : (node : NodeId) → IsGivenNode r node → IsUnusedNode now node

-- A node is now as it is in the snapshot, if its key was granted no later than the snapshot was
-- taken, the number has not committed since, and the node is there in the snapshot.
abbrev pub KeepsNode : LiveMap → Part → TakenSnapshot → LockKey → Grant → Type 0
KeepsNode now part snapshot key grant =
    grant.number ≤ snapshot.point → part.last ≤ snapshot.point
    → IsNodeThere (live_in_lists snapshot.lists) key
    → AgreeAt key (live_in_lists snapshot.lists) now

-- What is so of the part of a number.
pub record IsPartSound (Makes : LiveMap → Tree → Type 0) (mounted : Mounted) (notes : List Note)
    (now : LiveMap) (ids stores counted : ℕ) (part : Part) : Type 0 where
  pub snapshots : (i : ℕ) (snapshot : TakenSnapshot) → slice_get part.snapshots i ≡ Some snapshot
      → IsSnapshotSound Makes mounted notes now snapshot
  pub keeps : (i : ℕ) (snapshot : TakenSnapshot) (key : LockKey) (grant : Grant)
      → slice_get part.snapshots i ≡ Some snapshot → finite.get part.grants key ≡ Some grant
      → KeepsNode now part snapshot key grant
  pub granted : (key : LockKey) (grant : Grant) → finite.get part.grants key ≡ Some grant
      → grant.number ≤ last_commit mounted.kept notes
  pub committed : part.last ≤ last_commit mounted.kept notes
  pub reserves : (r : Reservation) → part.reserved ≡ Some r → IsReservationSound now ids stores r
  pub met : part.faults ≤ counted

-- The key table has what the parts have, and no two numbers hold a key in modes that conflict.
pub record KeysAgree (table : Table) (parts : finite.FinMap nat_cmp Part) : Type 0 where
  pub held : (who : ℕ) (key : LockKey) → mode_of table who key ≡ mode_by parts who key
  pub rooms : (who : ℕ) → room_of table who ≡ room_by parts who
  pub consistent : IsConsistent table

-- No new node was given to both.
abbrev pub AreGivenApart : Part → Part → Type 0
AreGivenApart part other = (r t : Reservation) (node : NodeId) → part.reserved ≡ Some r
    → other.reserved ≡ Some t → IsGivenNode r node → IsGivenNode t node → ⊥

-- The numbers share a state that events can lead to.
pub record IsSharedSound (Makes : LiveMap → Tree → Type 0) (s : SharedState) : Type 0 where
  pub happened : AreNotes s.mounted s.notes
  pub makes : Makes (live_now s) (tree_in s.mounted s.notes)
  pub keys : KeysAgree s.table s.parts
  pub parts : (who : ℕ) (part : Part) → IsPartOf s who part
      → IsPartSound Makes s.mounted s.notes (live_now s) s.ids s.stores s.faults part
  pub numbers : (who : ℕ) (part : Part) → IsPartOf s who part
      → (1 ≤ who) × (who ≤ MAX_NUMBERS)
  pub apart : (who other : ℕ) (part its : Part) → who ≢ other → IsPartOf s who part
      → IsPartOf s other its → AreGivenApart part its
  -- what was not given out has no item, and the root has the id and the store below
  pub unused : (node : NodeId) → IsNotGiven s.ids s.stores node → IsUnusedNode (live_now s) node
  pub first : (1 ≤ s.ids) × (1 ≤ s.stores)
