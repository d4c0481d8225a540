-- The nodes of the tree that items make, level by level.
use Rattle.std.specs.Prelude.{◌≡◌, ◌≢◌, ℕ, ◌<◌, zero, suc, List, [], ◌∷◌, ◌++◌, map, Some, unwrap_or, slice_get}
use Rattle.std.specs.List.{flat_map}
use Rattle.fx_item.specs.Item.{PlainItem}
use Rattle.fx_item.specs.Look.{ItemMap, value_in}
use Rattle.fx_plain.specs.declared.kind.Kind.TheVariants.{Dir}
use Rattle.fx_namespace.specs.Nodes.{NodeId, node_at, object_kind, root_node}
use Rattle.fx_nodes.specs.Links.{Link, links_from, links_of}
use Rattle.fx_nodes.specs.declared.walk.TreeNode.{TreeNode}

-- a child of the node at a path
abbrev pub node_below : ItemMap → List (List ℕ) → Link → TreeNode
node_below m path l = record {
  path = path ++ l.name ∷ [];
  node = l.node;
  kind = unwrap_or (object_kind m l.node) Dir;
}

-- the children of the node at a path
abbrev pub below : List PlainItem → List (List ℕ) → NodeId → List TreeNode
below items path node = map (node_below (value_in items) path) (links_from (links_of items) node)

abbrev pub all_below : List PlainItem → List TreeNode → List TreeNode
all_below items nodes = flat_map (λ x. below items x.path x.node) nodes

-- the nodes that so many names and one more lead to
abbrev pub level_of : List PlainItem → ℕ → List TreeNode
level_of items zero = below items [] root_node
level_of items (suc n) = all_below items (level_of items n)

abbrev pub levels : List PlainItem → ℕ → List TreeNode
levels items zero = []
levels items (suc n) = levels items n ++ level_of items n

-- The list has each node that a path of one or more names leads to, with the path and the kind,
-- once, and parents before their children.
pub record AreTreeNodes (m : ItemMap) (nodes : List TreeNode) : Type 0 where
  -- each path leads to its node, which is of that kind
  pub node : (i : ℕ) (x : TreeNode) → slice_get nodes i ≡ Some x → node_at m x.path ≡ Some x.node
  pub kind : (i : ℕ) (x : TreeNode) → slice_get nodes i ≡ Some x
      → object_kind m x.node ≡ Some x.kind
  -- each path of one or more names is there
  pub whole : (above : List (List ℕ)) (name : List ℕ) (node : NodeId)
      → node_at m (above ++ name ∷ []) ≡ Some node
      → (i : ℕ) × (x : TreeNode) × (slice_get nodes i ≡ Some x) × (x.path ≡ above ++ name ∷ [])
  -- no path is there twice, and none is empty
  pub once : (i j : ℕ) (x y : TreeNode) → slice_get nodes i ≡ Some x → slice_get nodes j ≡ Some y
      → x.path ≡ y.path → i ≡ j
  pub named : (i : ℕ) (x : TreeNode) → slice_get nodes i ≡ Some x → x.path ≢ []
  -- what a path goes through is there before it
  pub parent : (i : ℕ) (x : TreeNode) (above : List (List ℕ)) (name : List ℕ)
      → slice_get nodes i ≡ Some x → x.path ≡ above ++ name ∷ [] → above ≢ []
      → (j : ℕ) × (y : TreeNode) × (j < i) × (slice_get nodes j ≡ Some y) × (y.path ≡ above)
