-- The tree of paths that items make, for given contents and attributes of their nodes.
use Rattle.std.specs.Prelude.{◌≡◌, ℕ, List, Option, Some, option_and_then, option_map, if◌then◌else◌}
use Rattle.std.specs.FinMap as map
use Rattle.fx_plain.specs.Node.{Attributes, Contents, Node, Dir, File, empty_dir, no_contents}
use Rattle.fx_plain.specs.Tree.{Tree}
use Rattle.fx_plain.specs.declared.kind.Kind.{Kind}
use Rattle.fx_plain.specs.declared.kind.Kind.TheVariants as kinds
use Rattle.fx_item.specs.Look.{ItemMap}
use Rattle.fx_namespace.specs.Nodes.{NodeId, is_root, object_kind, node_at}

-- what nodes hold: a file its contents, and each its attributes
pub record Holdings : Type 0 where
  pub contents : NodeId → Contents
  pub attributes : NodeId → Attributes

-- nothing anywhere
abbrev pub bare : Holdings
bare = record { contents = λ node. no_contents; attributes = λ node. map.empty }

-- a node of that kind in the tree
abbrev pub node_of : Holdings → NodeId → Kind → Node
node_of holdings node kinds.Dir = Dir (holdings.attributes node)
node_of holdings node kinds.File = File (holdings.contents node) (holdings.attributes node)

-- what a node is in the tree; the root is a directory without attributes
abbrev pub shown : ItemMap → Holdings → NodeId → Option Node
shown m holdings node =
    if is_root node then Some empty_dir
    else option_map (node_of holdings node) (object_kind m node)

-- The tree has at each path what the path leads to.
pub record IsTreeOf (m : ItemMap) (holdings : Holdings) (tree : Tree) : Type 0 where
  pub at : (path : List (List ℕ))
      → map.get tree path ≡ option_and_then (shown m holdings) (node_at m path)
