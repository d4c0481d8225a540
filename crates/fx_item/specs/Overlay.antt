-- What lists of items stand for: a map from points. A point is what a single entry can stand at.
use Rattle.std.specs.Prelude.{ℕ, ◌+◌, ◌-◌, Bool, false, ◌&&◌, ◌==◌, nat_le, nat_lt, nat_eq, List, [], ◌∷◌, get_or, Option, Some, None, if◌then◌else◌}
use Rattle.std.specs.Cmp.Lexicographic.{pointwise}
use Rattle.fx_item.specs.Item.{PlainKey, ObjectKey, AttributeKey, ExtentKey, ChildKey, GraveKey, AllocationKey, PlainValue, GoneValue, ExtentValue, PlainItem}
use Rattle.fx_item.specs.Place.{Place, begins, file_place, device_place, last_place}

-- a point key, a block of a file by its place in the file, or a block of the device
pub data Point : Type 0 where
  AtKey : PlainKey → Point
  AtFileBlock : (store id place : ℕ) → Point
  AtDeviceBlock : (block : ℕ) → Point

-- what stands at a point: a value; for a block of a file, the block of the device and its sum
pub data Entry : Type 0 where
  ValueEntry : PlainValue → Entry
  BlockEntry : (block sum : ℕ) → Entry

abbrev is_node : ℕ → ℕ → ℕ → ℕ → Bool
is_node s i t j = (s == t) && (i == j)

-- two point keys are the same one
abbrev pub same_key : PlainKey → PlainKey → Bool
same_key (ObjectKey s i) (ObjectKey t j) = is_node s i t j
same_key (AttributeKey s i name) (AttributeKey t j other) =
    is_node s i t j && pointwise nat_eq name other
same_key (ChildKey s i name) (ChildKey t j other) =
    is_node s i t j && pointwise nat_eq name other
same_key (GraveKey s i) (GraveKey t j) = is_node s i t j
same_key _ _ = false

-- the key speaks of the point
abbrev pub covers : PlainKey → Point → Bool
covers (ExtentKey s i start stop) (AtFileBlock t j place) =
    is_node s i t j && nat_le start place && nat_lt place stop
covers (AllocationKey start stop) (AtDeviceBlock block) = nat_le start block && nat_lt block stop
covers key (AtKey other) = same_key key other
covers _ _ = false

-- what a value says of a point that its key covers; None where it takes the entry away
abbrev pub entry_in : PlainKey → PlainValue → Point → Option Entry
entry_in key GoneValue point = None
entry_in (ExtentKey s i start stop) (ExtentValue block sums) (AtFileBlock t j place) =
    Some (BlockEntry (block + (place - start)) (get_or sums (place - start) 0))
entry_in key value point = Some (ValueEntry value)

-- Where a point lies. A key covers the points from where it begins to where it ends. No key covers
-- a range as one point: it lies behind all keys.
abbrev pub at : Point → Place
at (AtKey (ExtentKey s i start stop)) = last_place
at (AtKey (AllocationKey start stop)) = last_place
at (AtKey key) = begins key
at (AtFileBlock s i n) = file_place s i n
at (AtDeviceBlock n) = device_place n

-- What is said of each point: nothing, that there is no entry, or which one.
abbrev pub Said : Type 0
Said = Point → Option (Option Entry)

-- What a list of items says of a point. An earlier item of the list goes before a later one.
abbrev pub says : List PlainItem → Said
says [] point = None
says (x ∷ rest) point =
    if covers x.key point then Some (entry_in x.key x.value point) else says rest point

-- the newer one where it says something, and else the older one
abbrev pub or_older : Option (Option Entry) → Option (Option Entry) → Option (Option Entry)
or_older (Some e) older = Some e
or_older None older = older

abbrev pub over : Said → Said → Said
over newer older point = or_older (newer point) (older point)

-- The overlay, the newest first: at each point what the newest one says that says something of it.
abbrev pub overlay : List Said → Said
overlay [] point = None
overlay (newest ∷ older) point = over newest (overlay older) point

-- what stands there: a tombstone is nothing
abbrev pub standing : Option (Option Entry) → Option Entry
standing (Some e) = e
standing None = None

abbrev pub live_in : Said → Point → Option Entry
live_in said point = standing (said point)
