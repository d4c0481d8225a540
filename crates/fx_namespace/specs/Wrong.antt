-- Where items do not make a tree of nodes.
use Rattle.std.specs.Prelude.{◌≡◌, ◌≢◌, ◌⊎◌, ℕ, ◌<◌, ◌≤◌, List, [], ◌∷◌, ◌++◌, length, Some, None, IsTrue}
use Rattle.std.specs.Ordering.{is_le}
use Rattle.fx_item.specs.Item.{PlainKey, PlainValue, GoneValue, ObjectKey, ChildKey, IsNameItem}
use Rattle.fx_item.specs.Look.{ItemMap}
use Rattle.fx_item.specs.LockKey.{key_cmp}
use Rattle.fx_plain.specs.declared.kind.Kind.TheVariants.{Dir}
use Rattle.fx_plain.specs.declared.path.TheConstants.{MAX_NAMES}
use Rattle.fx_namespace.specs.Nodes.{NodeId, root_node, child, node_at, object_kind}

-- Each key stands with a value that suits it, and no tombstone.
pub record AreLiveItems (m : ItemMap) : Type 0 where
  pub item : (key : PlainKey) (value : PlainValue) → m key ≡ Some value
      → IsNameItem (record { key = key; value = value })
  pub alive : (key : PlainKey) → m key ≢ Some GoneValue

-- A child of the root is node 0 of a store, from store 1 on, and any other child a node of its own
-- store, from id 1 on.
abbrev pub MayLead : NodeId → NodeId → Type 0
MayLead parent node = ((parent ≡ root_node) × (node.id ≡ 0) × (1 ≤ node.store))
    ⊎ ((parent ≢ root_node) × (node.store ≡ parent.store) × (1 ≤ node.id))

-- What is wrong at a node.
pub data IsWrongAt (m : ItemMap) (node : NodeId) : Type 0 where
  -- a child that may not lead there leads to it
  Misled : (parent : NodeId) (name : List ℕ) → child m parent name ≡ Some node
      → (MayLead parent node → ⊥) → IsWrongAt m node
  -- a child leads to it, and it has no Object
  Missing : (parent : NodeId) (name : List ℕ) → child m parent name ≡ Some node
      → object_kind m node ≡ None → IsWrongAt m node
  -- it is a child of the root, and no directory
  NoVolume : (name : List ℕ) → child m root_node name ≡ Some node → object_kind m node ≢ Some Dir
      → IsWrongAt m node
  -- two children lead to it
  LedTwice : (a b : NodeId) (x y : List ℕ) → child m a x ≡ Some node → child m b y ≡ Some node
      → ((a ≡ b) × (x ≡ y) → ⊥) → IsWrongAt m node
  -- it has a child, and is no directory
  NoParent : (name : List ℕ) (value : PlainValue) → node ≢ root_node
      → m (ChildKey node.store node.id name) ≡ Some value → object_kind m node ≢ Some Dir
      → IsWrongAt m node
  -- it has an Object, and no path of one or more names leads to it
  Lost : (value : PlainValue) → m (ObjectKey node.store node.id) ≡ Some value
      → ((above : List (List ℕ)) (name : List ℕ) → node_at m (above ++ name ∷ []) ≡ Some node → ⊥)
      → IsWrongAt m node
  -- a path of more than 64 names leads to it
  TooDeep : (path : List (List ℕ)) → node_at m path ≡ Some node → MAX_NAMES < length path
      → IsWrongAt m node

-- The least of the nodes at which something is wrong, by store and id.
pub record IsLeastWrong (m : ItemMap) (node : NodeId) : Type 0 where
  pub wrong : IsWrongAt m node
  pub least : (other : NodeId) → IsWrongAt m other → IsTrue (is_le (key_cmp node other))
