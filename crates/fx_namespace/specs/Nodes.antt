-- The nodes that items make: where a path leads, and of what kind a node is.
use Rattle.std.specs.Prelude.{◌≡◌, ◌≢◌, ℕ, ◌≤◌, Bool, ◌&&◌, ◌==◌, List, [], ◌∷◌, ◌++◌, length, Option, Some, None, option_and_then, if◌then◌else◌}
use Rattle.fx_item.specs.Item.{ObjectKey, ChildKey, PlainValue, DirectoryValue, FileValue, ChildValue}
use Rattle.fx_item.specs.Look.{ItemMap}
use Rattle.fx_item.specs.declared.lock.LockKey.{LockKey}
use Rattle.fx_plain.specs.declared.path.TheConstants.{MAX_NAMES}
use Rattle.fx_plain.specs.declared.kind.Kind.{Kind}
use Rattle.fx_plain.specs.declared.kind.Kind.TheVariants.{Dir, File}

-- a node, by its store and id
abbrev pub NodeId : Type 0
NodeId = LockKey

abbrev pub root_node : NodeId
root_node = record { store = 0; id = 0 }

abbrev pub is_root : NodeId → Bool
is_root node = node.store == 0 && node.id == 0

-- the node that a child's value names
abbrev pub led_to : Option PlainValue → Option NodeId
led_to (Some (ChildValue store id)) = Some (record { store = store; id = id })
led_to _ = None

-- the child of that name in a node
abbrev pub child : ItemMap → NodeId → List ℕ → Option NodeId
child m node name = led_to (m (ChildKey node.store node.id name))

-- the node that names lead to from a node on, child by child
abbrev pub node_from : ItemMap → NodeId → List (List ℕ) → Option NodeId
node_from m node [] = Some node
node_from m node (name ∷ names) =
    option_and_then (λ next. node_from m next names) (child m node name)

-- the node that a path leads to
abbrev pub node_at : ItemMap → List (List ℕ) → Option NodeId
node_at m path = node_from m root_node path

-- the kind that an Object's value tells
abbrev pub told_kind : Option PlainValue → Option Kind
told_kind (Some DirectoryValue) = Some Dir
told_kind (Some (FileValue len)) = Some File
told_kind _ = None

abbrev pub object_kind : ItemMap → NodeId → Option Kind
object_kind m node = told_kind (m (ObjectKey node.store node.id))

-- The kind of a node. The root is a directory, and needs no Object.
abbrev pub kind_of : ItemMap → NodeId → Option Kind
kind_of m node = if is_root node then Some Dir else object_kind m node

-- the kind of what lies at a path
abbrev pub kind_at : ItemMap → List (List ℕ) → Option Kind
kind_at m path = option_and_then (kind_of m) (node_at m path)

-- The items make a tree of nodes.
pub record Stands (m : ItemMap) : Type 0 where
  -- a child of the root is node 0 of a store, from store 1 on
  pub volumes : (name : List ℕ) (value : PlainValue) → m (ChildKey 0 0 name) ≡ Some value
      → (store : ℕ) × (value ≡ ChildValue store 0) × (1 ≤ store)
  -- any other child is a node of its own store, from id 1 on
  pub inner : (node : NodeId) (name : List ℕ) (value : PlainValue) → node ≢ root_node
      → m (ChildKey node.store node.id name) ≡ Some value
      → (id : ℕ) × (value ≡ ChildValue node.store id) × (1 ≤ id)
  -- a child has an Object
  pub objects : (node : NodeId) (name : List ℕ) (next : NodeId) → child m node name ≡ Some next
      → (kind : Kind) × (object_kind m next ≡ Some kind)
  -- and is a directory where it is a child of the root
  pub tops : (name : List ℕ) (next : NodeId) → child m root_node name ≡ Some next
      → object_kind m next ≡ Some Dir
  -- what has a child is a directory
  pub parents : (node : NodeId) (name : List ℕ) (value : PlainValue) → node ≢ root_node
      → m (ChildKey node.store node.id name) ≡ Some value → object_kind m node ≡ Some Dir
  -- no node is led to twice
  pub once : (a b : NodeId) (x y : List ℕ) (next : NodeId) → child m a x ≡ Some next
      → child m b y ≡ Some next → (a ≡ b) × (x ≡ y)
  -- each Object is of a node that some path of one or more names leads to
  pub reached : (node : NodeId) (value : PlainValue) → m (ObjectKey node.store node.id) ≡ Some value
      → (above : List (List ℕ)) × (name : List ℕ) × (node_at m (above ++ name ∷ []) ≡ Some node)
  -- no path has more than 64 names
  pub depth : (path : List (List ℕ)) (node : NodeId) → node_at m path ≡ Some node
      → length path ≤ MAX_NAMES
