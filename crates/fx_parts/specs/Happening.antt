-- The events of the shared state: when each may happen, and what it does.
use Rattle.std.specs.Prelude.{◌≡◌, ◌≢◌, ◌⊎◌, ℕ, ◌+◌, ◌-◌, ◌<◌, ◌≤◌, Bool, true, false, List, [], ◌∷◌, ◌++◌, Option, None, Some, drop, length, suc, take}
use Rattle.std.specs.FinMap as finite
use Rattle.std.specs.declared.cmp.Ordering.TheVariants.{Less}
use Rattle.fx_item.specs.Item.{PlainItem}
use Rattle.fx_item.specs.LockKey as lock
use Rattle.fx_item.specs.declared.lock.LockKey.{LockKey}
use Rattle.fx_item.specs.declared.lock.Mode.{Mode}
use Rattle.fx_item.specs.declared.lock.Mode.TheVariants.{Change, Write}
use Rattle.fx_item.specs.declared.space.Need.{Need}
use Rattle.fx_keys.specs.Table.{AskGives, GainsRoom, Leaves, RaiseGives, Table, empty_table}
use Rattle.fx_keys.specs.declared.table.Asked.{Asked}
use Rattle.fx_keys.specs.declared.table.Asked.TheVariants.{Held, Busy}
use Rattle.fx_keys.specs.declared.table.TheConstants.{MAX_NUMBERS}
use Rattle.fx_plain.specs.Tree.{Tree}
use Rattle.fx_history.specs.declared.entry.Entry.{Entry}
use Rattle.fx_events.specs.Notes.{Commits, IsNextBase, IsNextEntry, IsNextFlush, Mounted, Note, Raises, Settles, tree_in}
use Rattle.fx_parts.specs.Live.{AgreeAll, LiveMap, live_in_lists}
use Rattle.fx_parts.specs.Parts.{Grant, IsEmptyPart, IsPartOf, Part, SharedState, fresh_part, live_now, number_now}
use Rattle.fx_parts.specs.Plans.{IsCommitBacked}

-- An event, by whom, what it was asked, and where a key table answered, that answer and the table
-- after it. Those of upkeep are of no number.
pub data SharedEvent : Type 0 where
  -- the number comes into use
  Enter : (who : ℕ) → SharedEvent
  -- it met a fault of the disk, and keeps the count of now
  Meet : (who : ℕ) → SharedEvent
  -- it is in use no more
  Leave : (who : ℕ) → SharedEvent
  -- it has room for so many further keys
  MakeRoom : (who count : ℕ) (table : Table) → SharedEvent
  -- it asks for a key; it asks to raise one; it gives up all keys and its room
  AskKey : (who : ℕ) (key : LockKey) (mode : Mode) (answer : Asked) (table : Table) → SharedEvent
  RaiseKey : (who : ℕ) (key : LockKey) (answer : Asked) (table : Table) → SharedEvent
  Unlock : (who : ℕ) (table : Table) → SharedEvent
  -- it takes a snapshot; it gives up the one with this index
  TakeSnapshot : (who : ℕ) → SharedEvent
  DropSnapshot : (who index : ℕ) → SharedEvent
  -- so much is reserved for it, and new ids are given to it; it gives that back
  Reserve : (who : ℕ) (need : Need) (bytes : ℕ) → SharedEvent
  RollBack : (who : ℕ) → SharedEvent
  -- it commits these items, for a client's entry or for upkeep
  Commit : (who : ℕ) (entry : Entry) (items : List PlainItem) → SharedEvent
  -- a flush settled the commits up to the number, after so many device calls
  Mark : (number calls : ℕ) → SharedEvent
  -- a checkpoint raised the base count
  RaiseBase : (base : ℕ) → SharedEvent
  -- the items lie in other lists
  Tidy : (lists : List (List PlainItem)) → SharedEvent
  -- the disk has counted so many faults
  Count : (faults : ℕ) → SharedEvent

-- the number whose event it is
abbrev pub actor_of : SharedEvent → Option ℕ
actor_of (Enter who) = Some who
actor_of (Meet who) = Some who
actor_of (Leave who) = Some who
actor_of (MakeRoom who count table) = Some who
actor_of (AskKey who key mode answer table) = Some who
actor_of (RaiseKey who key answer table) = Some who
actor_of (Unlock who table) = Some who
actor_of (TakeSnapshot who) = Some who
actor_of (DropSnapshot who index) = Some who
actor_of (Reserve who need bytes) = Some who
actor_of (RollBack who) = Some who
actor_of (Commit who entry items) = Some who
actor_of (Mark number calls) = None
actor_of (RaiseBase base) = None
actor_of (Tidy lists) = None
actor_of (Count faults) = None

-- ---- what an event does

-- the state with this part of the number, and this table
abbrev pub set_part : ℕ → Part → SharedState → SharedState
set_part who part s = record s { parts = finite.insert s.parts who part }

abbrev pub set_keys : Table → ℕ → Part → SharedState → SharedState
set_keys table who part s =
    record s { table = table; parts = finite.insert s.parts who part }

-- what f makes of the state, by the number's part; a number that is not in use does nothing
abbrev pub by_part : SharedState → ℕ → (Part → SharedState) → SharedState
by_part s who f = elim (finite.get s.parts who) [ Some part ↦ f part | None ↦ s ]

-- the part with one key more, held since the number
abbrev pub with_key : LockKey → Mode → ℕ → Part → Part
with_key key mode number part = record part {
  grants = finite.insert part.grants key (record { mode = mode; number = number });
  room = part.room - 1;
}

-- the part with the key raised, held since when it was
abbrev pub with_raised : LockKey → Part → Part
with_raised key part = record part {
  grants = elim (finite.get part.grants key) [
    | Some grant ↦ finite.insert part.grants key (record grant { mode = Write })
    | None ↦ part.grants
  ];
}

abbrev pub without_keys : Part → Part
without_keys part = record part { grants = finite.empty; room = 0 }

-- the part with what is reserved, and the state from which new ids were given
abbrev pub with_reserved : Need → ℕ → SharedState → Part → Part
with_reserved need bytes s part = record part {
  reserved = Some (record { need = need; bytes = bytes; id = s.ids; store = s.stores });
}

abbrev pub with_snapshot : SharedState → Part → Part
with_snapshot s part = record part {
  snapshots = part.snapshots ++ record { point = number_now s; lists = s.lists } ∷ [];
}

abbrev pub without_snapshot : ℕ → Part → Part
without_snapshot index part = record part {
  snapshots = take index part.snapshots ++ drop (suc index) part.snapshots;
}

-- the part after the commit with this number
abbrev pub part_committed : ℕ → Part → Part
part_committed number part = record part { reserved = None; last = number }

abbrev pub after_ask : ℕ → LockKey → Mode → Asked → Table → SharedState → SharedState
after_ask who key mode Held table s =
    by_part s who (λ part. set_keys table who (with_key key mode (number_now s) part) s)
after_ask who key mode (Busy other) table s = s

abbrev pub after_raise : ℕ → LockKey → Asked → Table → SharedState → SharedState
after_raise who key Held table s =
    by_part s who (λ part. set_keys table who (with_raised key part) s)
after_raise who key (Busy other) table s = s

-- the state after the event
abbrev pub after_event : SharedState → SharedEvent → SharedState
after_event s (Enter who) = set_part who (fresh_part s.faults) s
after_event s (Meet who) =
    by_part s who (λ part. set_part who (record part { faults = s.faults }) s)
after_event s (Leave who) = record s { parts = finite.remove s.parts who }
after_event s (MakeRoom who count table) =
    by_part s who (λ part. set_keys table who (record part { room = part.room + count }) s)
after_event s (AskKey who key mode answer table) = after_ask who key mode answer table s
after_event s (RaiseKey who key answer table) = after_raise who key answer table s
after_event s (Unlock who table) =
    by_part s who (λ part. set_keys table who (without_keys part) s)
after_event s (TakeSnapshot who) =
    by_part s who (λ part. set_part who (with_snapshot s part) s)
after_event s (DropSnapshot who index) =
    by_part s who (λ part. set_part who (without_snapshot index part) s)
after_event s (Reserve who need bytes) = by_part s who (λ part. record s {
  parts = finite.insert s.parts who (with_reserved need bytes s part);
  ids = s.ids + need.nodes;
  stores = s.stores + need.nodes;
})
after_event s (RollBack who) =
    by_part s who (λ part. set_part who (record part { reserved = None }) s)
after_event s (Commit who entry items) = by_part s who (λ part. record s {
  notes = s.notes ++ Commits entry ∷ [];
  lists = items ∷ s.lists;
  parts = finite.insert s.parts who (part_committed entry.number part);
})
after_event s (Mark number calls) = record s { notes = s.notes ++ Settles number calls ∷ [] }
after_event s (RaiseBase base) = record s { notes = s.notes ++ Raises base ∷ [] }
after_event s (Tidy lists) = record s { lists = lists }
after_event s (Count faults) = record s { faults = faults }

-- the state right after a mount, which found these items, and the first ids that nobody uses
abbrev pub opened_state : Mounted → List (List PlainItem) → (ids stores faults : ℕ) → SharedState
opened_state mounted lists ids stores faults = record {
  mounted = mounted;
  notes = [];
  lists = lists;
  table = empty_table;
  parts = finite.empty;
  ids = ids;
  stores = stores;
  faults = faults;
}

-- ---- when an event may happen

-- the number is in use, and its part is so
abbrev pub HasPartWhere : SharedState → ℕ → (Part → Type 0) → Type 0
HasPartWhere s who P = (part : Part) × IsPartOf s who part × P part

-- The key lies above all that the part holds, and there is room for it.
pub record MayAsk (key : LockKey) (mode : Mode) (part : Part) : Type 0 where
  pub room : 0 < part.room
  pub asked : mode ≢ Write
  pub above : (k : LockKey) (grant : Grant) → finite.get part.grants k ≡ Some grant
      → lock.key_cmp k key ≡ Less

-- The part holds the key for a change, and no smaller key for one.
pub record MayRaise (key : LockKey) (part : Part) : Type 0 where
  pub grant : Grant
  pub held : finite.get part.grants key ≡ Some grant
  pub change : grant.mode ≡ Change
  pub next : (k : LockKey) (other : Grant) → lock.key_cmp k key ≡ Less
      → finite.get part.grants k ≡ Some other → other.mode ≢ Change

-- The entry is the next one, and what stands with the items makes the tree after it.
pub record MakesNext (Makes : LiveMap → Tree → Type 0) (s : SharedState) (entry : Entry)
    (items : List PlainItem) : Type 0 where
  pub next : IsNextEntry s.mounted s.notes entry
  pub makes : Makes (live_in_lists (items ∷ s.lists))
      (tree_in s.mounted (s.notes ++ Commits entry ∷ []))

-- the entry is the number's own, or one of upkeep
abbrev pub IsEntryBy : ℕ → Entry → Type 0
IsEntryBy who entry = (entry.who ≡ who) ⊎ (entry.who ≡ 0)

-- The number is none that is in use.
pub record MayEnter (s : SharedState) (who : ℕ) : Type 0 where
  pub free : finite.get s.parts who ≡ None
  pub first : 1 ≤ who
  pub few : who ≤ MAX_NUMBERS

-- The conditions of an event: of the part of its number; where a key table was asked, of its
-- answer; of a commit also, that its entry is the next one and its items now make the next tree
-- (`MakesNext`). For one mkdir, create or write of a client, and for upkeep that leaves the names,
-- the latter follows from the part (`commit_laws`).
abbrev pub MayHappen : (LiveMap → Tree → Type 0) → SharedState → SharedEvent → Type 0
MayHappen Makes s (Enter who) = MayEnter s who
MayHappen Makes s (Meet who) = HasPartWhere s who (λ part. Unit {0})
MayHappen Makes s (Leave who) = HasPartWhere s who IsEmptyPart
MayHappen Makes s (MakeRoom who count table) =
    HasPartWhere s who (λ part. Unit {0}) × GainsRoom s.table table who count
MayHappen Makes s (AskKey who key mode answer table) =
    HasPartWhere s who (MayAsk key mode) × AskGives s.table who key mode answer table
MayHappen Makes s (RaiseKey who key answer table) =
    HasPartWhere s who (MayRaise key) × RaiseGives s.table who key answer table
MayHappen Makes s (Unlock who table) =
    HasPartWhere s who (λ part. Unit {0}) × Leaves s.table table who
MayHappen Makes s (TakeSnapshot who) = HasPartWhere s who (λ part. Unit {0})
MayHappen Makes s (DropSnapshot who index) =
    HasPartWhere s who (λ part. index < length part.snapshots)
MayHappen Makes s (Reserve who need bytes) = HasPartWhere s who (λ part. part.reserved ≡ None)
MayHappen Makes s (RollBack who) = HasPartWhere s who (λ part. Unit {0})
MayHappen Makes s (Commit who entry items) =
    HasPartWhere s who (λ part. IsCommitBacked part items) × MakesNext Makes s entry items
    × IsEntryBy who entry
MayHappen Makes s (Mark number calls) = IsNextFlush s.mounted s.notes number calls
MayHappen Makes s (RaiseBase base) = IsNextBase s.mounted s.notes base
MayHappen Makes s (Tidy lists) = AgreeAll (live_now s) (live_in_lists lists)
MayHappen Makes s (Count faults) = s.faults ≤ faults

-- the events follow one another, from one state to another
abbrev pub RunsTo : (LiveMap → Tree → Type 0) → SharedState → List SharedEvent → SharedState
    → Type 0
RunsTo Makes s [] t = s ≡ t
RunsTo Makes s (event ∷ events) t =
    MayHappen Makes s event × RunsTo Makes (after_event s event) events t

-- What events leave: the mount, and the notes, of which more may stand behind. The number of the
-- last commit and what was given out do not fall.
pub record StateGoesOn (s t : SharedState) : Type 0 where
  pub mounted : t.mounted ≡ s.mounted
  pub more : List Note
  pub notes : t.notes ≡ s.notes ++ more
  pub number : number_now s ≤ number_now t
  pub ids : s.ids ≤ t.ids
  pub stores : s.stores ≤ t.stores

-- the number at which an event shows its client the tree: that of a snapshot, or of the client's
-- own commit
abbrev pub point_shown : SharedState → SharedEvent → Option ℕ
point_shown s (TakeSnapshot who) = Some (number_now s)
point_shown s (Commit who entry items) = Some entry.number
point_shown s event = None

abbrev pub is_commit_event : SharedEvent → Bool
is_commit_event (Commit who entry items) = true
is_commit_event event = false

-- the event is a client's commit, and none of upkeep
abbrev pub IsClientCommit : SharedEvent → Type 0
IsClientCommit (Commit who entry items) = 0 < entry.who
IsClientCommit event = ⊥

-- between the number that a client had seen and the last one; above the first by its own commit
pub record IsBetween (seen last : ℕ) (commits : Bool) (point : ℕ) : Type 0 where
  pub from : seen ≤ point
  pub above : commits ≡ true → seen < point
  pub upto : point ≤ last
