-- The items of one commit: a new node's, or a written file's; and the numbers that new nodes get.
use Rattle.std.specs.Prelude.{◌≡◌, ◌≢◌, ◌⊎◌, ℕ, ◌+◌, ◌<◌, ◌≤◌, List, [], ◌∷◌, ◌++◌, length, None, Some, if◌then◌else◌}
use Rattle.std.specs.FinMap.{get}
use Rattle.fx_item.specs.Item.{PlainKey, ObjectKey, ChildKey, PlainValue, DirectoryValue, FileValue, ChildValue, PlainItem}
use Rattle.fx_item.specs.Look.{ItemMap, key_id, key_store, value_id, value_store}
use Rattle.fx_plain.specs.Node.{Attributes, Contents}
use Rattle.fx_plain.specs.Node as plain
use Rattle.fx_plain.specs.Tree.{Tree}
use Rattle.fx_plain.specs.declared.kind.Kind.{Kind}
use Rattle.fx_plain.specs.declared.kind.Kind.TheVariants.{Dir, File}
use Rattle.fx_plain.specs.declared.path.TheConstants.{MAX_NAMES}
use Rattle.fx_namespace.specs.Nodes.{NodeId, root_node, is_root, node_at}

-- what the Object of a new node says
abbrev pub new_value : Kind → PlainValue
new_value Dir = DirectoryValue
new_value File = FileValue 0

-- the items that make a new node: its entry in a directory, and its Object
abbrev pub new_items : NodeId → List ℕ → NodeId → Kind → List PlainItem
new_items parent name node kind =
    record { key = ChildKey parent.store parent.id name; value = ChildValue node.store node.id }
    ∷ record { key = ObjectKey node.store node.id; value = new_value kind } ∷ []

-- the item of a write: the file's Object. What files hold is not kept yet.
abbrev pub written_items : NodeId → List PlainItem
written_items node = record { key = ObjectKey node.store node.id; value = FileValue 0 } ∷ []

-- The root and all that stands use ids below the one number, and stores below the other.
pub record IsBelow (m : ItemMap) (id store : ℕ) : Type 0 where
  pub root_id : 1 ≤ id
  pub root_store : 1 ≤ store
  pub key : (key : PlainKey) (value : PlainValue) → m key ≡ Some value
      → (key_id key < id) × (key_store key < store)
  pub value : (key : PlainKey) (value : PlainValue) → m key ≡ Some value
      → (value_id value < id) × (value_store value < store)

-- The node that comes next in a directory: in the root, which has directories alone, node 0 of the
-- next store, and elsewhere the next id in the directory's store.
abbrev pub IsNextNode : NodeId → NodeId → Kind → (id store : ℕ) → Type 0
IsNextNode parent node kind id store =
    ((parent ≡ root_node) × (kind ≡ Dir) × (node ≡ record { store = store; id = 0 }))
    ⊎ ((parent ≢ root_node) × (node ≡ record { store = parent.store; id = id }))

-- the next id, and the next store, after a new node in the directory
abbrev pub id_then : NodeId → ℕ → ℕ
id_then parent id = if is_root parent then id else id + 1

abbrev pub store_then : NodeId → ℕ → ℕ
store_then parent store = if is_root parent then store + 1 else store

-- A new node can stand under the name: the path above it leads to the parent, which the tree
-- has as a directory, nothing lies at the path itself, and it is not too deep.
pub record IsFreePlace (m : ItemMap) (tree : Tree) (above : List (List ℕ)) (parent : NodeId)
    (name : List ℕ) : Type 0 where
  pub way : node_at m above ≡ Some parent
  pub attributes : Attributes
  pub directory : get tree above ≡ Some (plain.Dir attributes)
  pub free : get tree (above ++ name ∷ []) ≡ None
  pub depth : length above < MAX_NAMES

-- The path leads to the node, which the tree has as a file.
pub record IsFileAt (m : ItemMap) (tree : Tree) (path : List (List ℕ))
    (node : NodeId) : Type 0 where
  pub way : node_at m path ≡ Some node
  pub contents : Contents
  pub attributes : Attributes
  pub file : get tree path ≡ Some (plain.File contents attributes)

-- In n the path leads to the node, and every other path where it leads in m.
pub record LeadsAlso (m n : ItemMap) (path : List (List ℕ)) (node : NodeId) : Type 0 where
  pub new : node_at n path ≡ Some node
  pub others : (other : List (List ℕ)) → other ≢ path → node_at n other ≡ node_at m other
