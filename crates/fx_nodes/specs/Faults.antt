-- The nodes at which something is wrong, as they are gathered.
use Rattle.std.specs.Prelude.{◌≡◌, ℕ, ◌<◌, Bool, true, false, ◌&&◌, ◌||◌, ◌==◌, not, nat_le, List, [], ◌∷◌, ◌++◌, length, Option, Some, None, IsTrue, if◌then◌else◌}
use Rattle.std.specs.Ordering.{is_le}
use Rattle.fx_item.specs.LockKey.{key_cmp}
use Rattle.fx_item.specs.Look.{ItemMap}
use Rattle.fx_plain.specs.declared.kind.Kind.{Kind}
use Rattle.fx_plain.specs.declared.kind.Kind.TheVariants.{Dir, File}
use Rattle.fx_plain.specs.declared.path.TheConstants.{MAX_NAMES}
use Rattle.fx_namespace.specs.Nodes.{NodeId, is_root, node_at, object_kind}
use Rattle.fx_nodes.specs.Lists.{IsIn, IsRepeated}
use Rattle.fx_nodes.specs.Links.{Link}

-- a child of one node may lead to another
abbrev pub may_lead : NodeId → NodeId → Bool
may_lead parent node =
    if is_root parent then node.id == 0 && nat_le 1 node.store
    else node.store == parent.store && nat_le 1 node.id

-- what a child of that node leads to may be of that kind
abbrev pub may_be : NodeId → Option Kind → Bool
may_be parent None = false
may_be parent (Some Dir) = true
may_be parent (Some File) = not (is_root parent)

abbrev pub is_wrong_child : ItemMap → Link → Bool
is_wrong_child m l = not (may_lead l.parent l.node) || not (may_be l.parent (object_kind m l.node))

-- a node of that kind may not have a child
abbrev pub is_childless : NodeId → Option Kind → Bool
is_childless node (Some Dir) = false
is_childless node (Some File) = not (is_root node)
is_childless node None = not (is_root node)

abbrev pub wrong_child : ItemMap → Link → List NodeId
wrong_child m l = if is_wrong_child m l then l.node ∷ [] else []

abbrev pub wrong_parent : ItemMap → Link → List NodeId
wrong_parent m l = if is_childless l.parent (object_kind m l.parent) then l.parent ∷ [] else []

-- what is wrong by one child
abbrev pub wrong_by : ItemMap → Link → List NodeId
wrong_by m l = wrong_child m l ++ wrong_parent m l

pub record AreRepeated (nodes repeated : List NodeId) : Type 0 where
  pub sound : (node : NodeId) → IsIn repeated node → IsRepeated nodes node
  pub whole : (node : NodeId) → IsRepeated nodes node → IsIn repeated node

-- The nodes among these that no path of one or more names leads to.
pub record AreLost (m : ItemMap) (objects lost : List NodeId) : Type 0 where
  pub object : (node : NodeId) → IsIn lost node → IsIn objects node
  pub unled : (node : NodeId) → IsIn lost node → (above : List (List ℕ)) (name : List ℕ)
      → node_at m (above ++ name ∷ []) ≡ Some node → ⊥
  pub whole : (node : NodeId) → IsIn objects node
      → ((above : List (List ℕ)) (name : List ℕ) → node_at m (above ++ name ∷ []) ≡ Some node → ⊥)
      → IsIn lost node

-- The nodes that paths of more than 64 names lead to.
pub record AreDeep (m : ItemMap) (deep : List NodeId) : Type 0 where
  pub sound : (node : NodeId) → IsIn deep node
      → (path : List (List ℕ)) × (node_at m path ≡ Some node) × (MAX_NAMES < length path)
  pub whole : (path : List (List ℕ)) (node : NodeId) → node_at m path ≡ Some node
      → MAX_NAMES < length path → IsIn deep node

-- what is the least of some nodes
abbrev pub IsLeastNode : List NodeId → Option NodeId → Type 0
IsLeastNode nodes None = nodes ≡ []
IsLeastNode nodes (Some node) = IsIn nodes node
    × ((other : NodeId) → IsIn nodes other → IsTrue (is_le (key_cmp node other)))
