-- The state that many numbers share, as plain data: what happened, the items now, the key table,
-- and one part for each number in use.
use Rattle.std.specs.Prelude.{◌≡◌, ◌⊎◌, ℕ, ◌+◌, ◌<◌, ◌≤◌, List, [], Option, None, Some, option_and_then, option_map}
use Rattle.std.specs.FinMap as finite
use Rattle.std.specs.Ordering.{nat_cmp}
use Rattle.fx_item.specs.Item.{PlainItem}
use Rattle.fx_item.specs.LockKey as lock
use Rattle.fx_item.specs.declared.lock.LockKey.{LockKey}
use Rattle.fx_item.specs.declared.lock.Mode.{Mode}
use Rattle.fx_item.specs.declared.space.Need.{Need}
use Rattle.fx_keys.specs.Table.{Table}
use Rattle.fx_namespace.specs.Nodes.{NodeId}
use Rattle.fx_events.specs.Notes.{Mounted, Note, last_commit}
use Rattle.fx_parts.specs.Live.{LiveMap, live_in_lists}

-- a key that is held: its mode, and the number of the last commit when it was granted
pub record Grant : Type 0 where
  pub mode : Mode
  pub number : ℕ

-- the number of the last commit when it was taken, and the items then, the newest list first
pub record TakenSnapshot : Type 0 where
  pub point : ℕ
  pub lists : List (List PlainItem)

-- what a commit may add, the bytes that its records may take in the ring, and the first of the new
-- ids and the first of the new stores, of which there are as many as nodes
pub record Reservation : Type 0 where
  pub need : Need
  pub bytes : ℕ
  pub id : ℕ
  pub store : ℕ

-- What one number has: the keys that it holds, how many further ones it has room for, its
-- snapshots, what is reserved for it, the number of its last commit (0 before the first), and the
-- faults that the disk had counted when it came or last met one.
pub record Part : Type 0 where
  pub grants : finite.FinMap lock.key_cmp Grant
  pub room : ℕ
  pub snapshots : List TakenSnapshot
  pub reserved : Option Reservation
  pub last : ℕ
  pub faults : ℕ

-- What the numbers share: what the mount found and the notes since, the items now, the newest list
-- first, the key table, the part of each number in use, the first id and the first store that were
-- not given out yet, and the disk's count of faults.
pub record SharedState : Type 0 where
  pub mounted : Mounted
  pub notes : List Note
  pub lists : List (List PlainItem)
  pub table : Table
  pub parts : finite.FinMap nat_cmp Part
  pub ids : ℕ
  pub stores : ℕ
  pub faults : ℕ

-- the number of the last commit
abbrev pub number_now : SharedState → ℕ
number_now s = last_commit s.mounted.kept s.notes

-- what stands now
abbrev pub live_now : SharedState → LiveMap
live_now s = live_in_lists s.lists

-- the number is in use, and this is its part
abbrev pub IsPartOf : SharedState → ℕ → Part → Type 0
IsPartOf s who part = finite.get s.parts who ≡ Some part

-- the part of a number that has just come into use
abbrev pub fresh_part : ℕ → Part
fresh_part faults = record {
  grants = finite.empty;
  room = 0;
  snapshots = [];
  reserved = None;
  last = 0;
  faults = faults;
}

-- the number holds nothing
pub record IsEmptyPart (part : Part) : Type 0 where
  pub grants : part.grants ≡ finite.empty
  pub room : part.room ≡ 0
  pub snapshots : part.snapshots ≡ []
  pub reserved : part.reserved ≡ None

-- the mode in which a number holds a key, and the room that it has, by its part
abbrev pub mode_by : finite.FinMap nat_cmp Part → ℕ → LockKey → Option Mode
mode_by parts who key =
    option_and_then (λ part. option_map (λ grant. grant.mode) (finite.get part.grants key))
    (finite.get parts who)

abbrev pub room_by : finite.FinMap nat_cmp Part → ℕ → ℕ
room_by parts who = elim (finite.get parts who) [ Some part ↦ part.room | None ↦ 0 ]

-- the node has one of the ids that were reserved, or is node 0 of one of the stores
abbrev pub IsGivenNode : Reservation → NodeId → Type 0
IsGivenNode r node =
    ((r.id ≤ node.id) × (node.id < r.id + r.need.nodes))
    ⊎ ((node.id ≡ 0) × (r.store ≤ node.store) × (node.store < r.store + r.need.nodes))

-- its id, or its store where it is node 0 of it, was not given out yet
abbrev pub IsNotGiven : (ids stores : ℕ) → NodeId → Type 0
IsNotGiven ids stores node = (ids ≤ node.id) ⊎ ((node.id ≡ 0) × (stores ≤ node.store))
