-- Changes of items, and what they need.
use Rattle.std.specs.Prelude.{◌≡◌, ◌≢◌, ℕ, ◌<◌, List, length, Some, None}
use Rattle.fx_item.specs.Item.{PlainKey, ObjectKey, ChildKey, PlainValue, FileValue, ChildValue}
use Rattle.fx_plain.specs.declared.kind.Kind.{Kind}
use Rattle.fx_plain.specs.declared.kind.Kind.TheVariants.{Dir}
use Rattle.fx_plain.specs.declared.path.TheConstants.{MAX_NAMES}
use Rattle.fx_item.specs.Look.{ItemMap}
use Rattle.fx_namespace.specs.Nodes.{NodeId, root_node, child, node_at, kind_of}
use Rattle.fx_namespace.specs.Trees.{Holdings}
use Rattle.fx_namespace.specs.Wrong.{MayLead}

-- A node that no Object and no child speaks of.
pub record IsFreshNode (m : ItemMap) (node : NodeId) : Type 0 where
  pub object : m (ObjectKey node.store node.id) ≡ None
  pub led : (parent : NodeId) (name : List ℕ) → child m parent name ≢ Some node

-- The items gain one node: its Object, and its child entry in a directory where that name is free.
pub record GainsNode (m n : ItemMap) (parent : NodeId) (name : List ℕ) (node : NodeId)
    (value : PlainValue) : Type 0 where
  pub object : n (ObjectKey node.store node.id) ≡ Some value
  pub entry : n (ChildKey parent.store parent.id name) ≡ Some (ChildValue node.store node.id)
  pub others : (key : PlainKey) → key ≢ ObjectKey node.store node.id
      → key ≢ ChildKey parent.store parent.id name → n key ≡ m key

-- Holdings that differ at most in the contents of one node.
pub record SameBut (node : NodeId) (g h : Holdings) : Type 0 where
  pub contents : (other : NodeId) → other ≢ node → h.contents other ≡ g.contents other
  pub attributes : (other : NodeId) → h.attributes other ≡ g.attributes other

-- The place for a new node: a directory that a path leads to, with the name free, and a fresh node
-- which may be its child, of that kind, a directory in the root, not too deep.
pub record IsPlaceFor (m : ItemMap) (above : List (List ℕ)) (parent : NodeId) (name : List ℕ)
    (node : NodeId) (kind : Kind) : Type 0 where
  pub way : node_at m above ≡ Some parent
  pub dir : kind_of m parent ≡ Some Dir
  pub free : m (ChildKey parent.store parent.id name) ≡ None
  pub fresh : IsFreshNode m node
  pub lead : MayLead parent node
  pub volume : parent ≡ root_node → kind ≡ Dir
  pub depth : length above < MAX_NAMES

-- The Object of a file tells a length in place of another, and all else stays.
pub record Resizes (m n : ItemMap) (node : NodeId) (old new : ℕ) : Type 0 where
  pub before : m (ObjectKey node.store node.id) ≡ Some (FileValue old)
  pub after : n (ObjectKey node.store node.id) ≡ Some (FileValue new)
  pub others : (key : PlainKey) → key ≢ ObjectKey node.store node.id → n key ≡ m key
