-- What a look finds, and the numbers that items use.
use Rattle.std.specs.Prelude.{◌≡◌, ◌==◌, ℕ, ◌+◌, ◌<◌, Bool, false, true, max, List, [], ◌∷◌, Option, Some, None, if◌then◌else◌}
use Rattle.std.specs.List.{fold, slice_get, list_any}
use Rattle.std.specs.Ordering.{is_eq}
use Rattle.fx_item.specs.Item.{PlainKey, ObjectKey, AttributeKey, ExtentKey, ChildKey, GraveKey, AllocationKey, PlainValue, GoneValue, ChildValue, PlainItem, IsItem}
use Rattle.fx_item.specs.Order.{key_cmp}
use Rattle.fx_item.specs.Place.{Place, Upto, Below, begins, ends}
use Rattle.fx_item.specs.Overlay.{Point, Entry, ValueEntry, AtKey, Said, at, covers, entry_in, says, live_in}
use Rattle.fx_item.specs.declared.look.LookFault.{LookFault}
use Rattle.fx_item.specs.declared.look.LookFault.TheVariants as faults

-- what stands under each key
abbrev pub ItemMap : Type 0
ItemMap = PlainKey → Option PlainValue

-- what stands under a key in a list of items
abbrev pub value_in : List PlainItem → ItemMap
value_in [] key = None
value_in (x ∷ xs) key = if is_eq (key_cmp x.key key) then Some x.value else value_in xs key

-- the value that an entry of an overlay is, if it is one of a point key
abbrev pub value_of_entry : Option Entry → Option PlainValue
value_of_entry (Some (ValueEntry value)) = Some value
value_of_entry _ = None

-- the key is one of a single point
abbrev pub is_point_key : PlainKey → Bool
is_point_key (ExtentKey store id start stop) = false
is_point_key (AllocationKey start stop) = false
is_point_key _ = true

-- What is said, as a map from point keys: tombstones are nothing, and no range stands under a key.
abbrev pub map_of : Said → ItemMap
map_of said key = if is_point_key key then value_of_entry (live_in said (AtKey key)) else None

-- what a value says of its own point key
abbrev pub spoken : Option PlainValue → Option (Option Entry)
spoken None = None
spoken (Some GoneValue) = Some None
spoken (Some value) = Some (Some (ValueEntry value))

-- ---- what a look finds from a place on

-- The item ends past the place. From the place on it says what is said; from the place to where it
-- begins nothing is said.
pub record IsFirstFrom (said : Said) (from : Place) (x : PlainItem) : Type 0 where
  pub good : IsItem x
  pub reaches : Below from (ends x.key)
  pub stands : (p : Point) → Upto from (at p) → covers x.key p ≡ true
      → said p ≡ Some (entry_in x.key x.value p)
  pub first : (p : Point) → Upto from (at p) → Below (at p) (begins x.key) → said p ≡ None

-- the first item from there on, tombstones among them, or that nothing is said from there on
abbrev pub FindsFrom : Said → Place → Option PlainItem → Type 0
FindsFrom said from None = (p : Point) → Upto from (at p) → said p ≡ None
FindsFrom said from (Some x) = IsFirstFrom said from x

abbrev pub is_gone : PlainValue → Bool
is_gone GoneValue = true
is_gone _ = false

-- The same of what stands: the item is no tombstone, and before it nothing stands.
pub record IsFirstLive (said : Said) (from : Place) (x : PlainItem) : Type 0 where
  pub good : IsItem x
  pub alive : is_gone x.value ≡ false
  pub reaches : Below from (ends x.key)
  pub stands : (p : Point) → Upto from (at p) → covers x.key p ≡ true
      → live_in said p ≡ entry_in x.key x.value p
  pub first : (p : Point) → Upto from (at p) → Below (at p) (begins x.key) → live_in said p ≡ None

abbrev pub FindsLive : Said → Place → Option PlainItem → Type 0
FindsLive said from None = (p : Point) → Upto from (at p) → live_in said p ≡ None
FindsLive said from (Some x) = IsFirstLive said from x

-- items in order, none of which covers a point of another
pub record AllApart (xs : List PlainItem) : Type 0 where
  pub good : (i : ℕ) (x : PlainItem) → slice_get xs i ≡ Some x → IsItem x
  pub apart : (i j : ℕ) (x y : PlainItem) → i < j
      → slice_get xs i ≡ Some x → slice_get xs j ≡ Some y → Upto (ends x.key) (begins y.key)

-- both say the same of each point from a place on
abbrev pub SayFrom : Said → Said → Place → Type 0
SayFrom m n from = (p : Point) → Upto from (at p) → m p ≡ n p

-- ---- why a look fails

abbrev pub has_block : List ℕ → ℕ → Bool
has_block blocks block = list_any (λ b. b == block) blocks

-- only a block that is not at hand is asked for
abbrev pub MayFail : List ℕ → LookFault → Type 0
MayFail lacks (faults.Need block) = has_block lacks block ≡ true
MayFail lacks faults.OutOfMemory = Unit {0}

-- ---- lists of items, one after another

-- What stands under each key after one more list: what the list says, and else what stood there.
abbrev pub after : ItemMap → List PlainItem → ItemMap
after m items key =
    elim (says items (AtKey key)) [ Some entry ↦ value_of_entry entry | None ↦ m key ]

abbrev pub no_items : ItemMap
no_items key = None

-- What stands under each key after all of these lists, the oldest first. It is the map of their
-- overlay: `after_all_law`.
abbrev pub after_all : List (List PlainItem) → ItemMap
after_all lists = fold after no_items lists

-- ---- the numbers that items use

abbrev pub key_id : PlainKey → ℕ
key_id (ObjectKey store id) = id
key_id (AttributeKey store id name) = id
key_id (ExtentKey store id start stop) = id
key_id (ChildKey store id name) = id
key_id (GraveKey store id) = id
key_id (AllocationKey start stop) = 0

abbrev pub key_store : PlainKey → ℕ
key_store (ObjectKey store id) = store
key_store (AttributeKey store id name) = store
key_store (ExtentKey store id start stop) = store
key_store (ChildKey store id name) = store
key_store (GraveKey store id) = store
key_store (AllocationKey start stop) = 0

abbrev pub value_id : PlainValue → ℕ
value_id (ChildValue store id) = id
value_id _ = 0

abbrev pub value_store : PlainValue → ℕ
value_store (ChildValue store id) = store
value_store _ = 0

-- the first number from `next` on that is above all ids, or stores, of the items
abbrev pub next_id : ℕ → List PlainItem → ℕ
next_id next items =
    fold (λ n x. max n (max (key_id x.key) (value_id x.value) + 1)) next items

abbrev pub next_store : ℕ → List PlainItem → ℕ
next_store next items =
    fold (λ n x. max n (max (key_store x.key) (value_store x.value) + 1)) next items

-- the same over lists
abbrev pub next_id_after : ℕ → List (List PlainItem) → ℕ
next_id_after next lists = fold next_id next lists

abbrev pub next_store_after : ℕ → List (List PlainItem) → ℕ
next_store_after next lists = fold next_store next lists
