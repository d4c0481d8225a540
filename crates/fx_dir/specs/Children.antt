-- The children of a directory.
use Rattle.std.specs.Prelude.{◌≡◌, ◌⊎◌, ℕ, ◌<◌, ◌==◌, ◌&&◌, List, Option, Some, None, IsTrue, if◌then◌else◌, slice_get}
use Rattle.std.specs.Ordering.{is_le}
use Rattle.std.specs.declared.cmp.Ordering.TheVariants.{Less}
use Rattle.fx_item.specs.Item.{PlainKey, ChildKey, PlainItem, PlainValue}
use Rattle.fx_item.specs.Look.{ItemMap}
use Rattle.fx_item.specs.Name.{name_cmp}
use Rattle.fx_item.specs.declared.lock.LockKey.{LockKey}

-- a child of that name is there
abbrev pub IsChild : ItemMap → LockKey → List ℕ → Type 0
IsChild m at name = (value : PlainValue) × (m (ChildKey at.store at.id name) ≡ Some value)

-- the names under which a node has a child, each once, in the order of their bytes
pub record AreChildren (m : ItemMap) (at : LockKey) (names : List (List ℕ)) : Type 0 where
  pub there : (i : ℕ) (name : List ℕ) → slice_get names i ≡ Some name → IsChild m at name
  pub all : (name : List ℕ) → IsChild m at name → (i : ℕ) × (slice_get names i ≡ Some name)
  pub rising : (i j : ℕ) (x y : List ℕ) → i < j → slice_get names i ≡ Some x
      → slice_get names j ≡ Some y → name_cmp x y ≡ Less

-- The first child from a name on: there is none, or this one, and every other is before that name
-- or after this one.
abbrev pub IsFirstChild : ItemMap → LockKey → List ℕ → Option (List ℕ) → Type 0
IsFirstChild m at from None = (other : List ℕ) → IsChild m at other → name_cmp other from ≡ Less
IsFirstChild m at from (Some name) = IsChild m at name × IsTrue (is_le (name_cmp from name))
    × ((other : List ℕ) → IsChild m at other
    → (name_cmp other from ≡ Less) ⊎ IsTrue (is_le (name_cmp name other)))

-- the name under which a key is a child of a node, if it is
abbrev pub name_under : LockKey → PlainKey → Option (List ℕ)
name_under at (ChildKey store id name) =
    if store == at.store && id == at.id then Some name else None
name_under at _ = None

abbrev pub child_name_at : LockKey → Option PlainItem → Option (List ℕ)
child_name_at at None = None
child_name_at at (Some item) = name_under at item.key
