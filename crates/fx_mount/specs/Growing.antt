-- The tree of an image, as its nodes are put into it one after another.
use Rattle.std.specs.Prelude.{◌≡◌, ◌≢◌, ◌⊎◌, ℕ, ◌<◌, List, [], ◌∷◌, ◌++◌, None, Some, length, slice_get}
use Rattle.std.specs.FinMap.{get}
use Rattle.fx_item.specs.Look.{ItemMap}
use Rattle.fx_plain.specs.Node.{Node, empty_dir, empty_file}
use Rattle.fx_plain.specs.Tree.{Tree, IsTree}
use Rattle.fx_plain.specs.Table.{walk}
use Rattle.fx_plain.specs.declared.kind.Kind.{Kind}
use Rattle.fx_plain.specs.declared.kind.Kind.TheVariants.{Dir, File}
use Rattle.fx_namespace.specs.Nodes.{root_node}
use Rattle.fx_nodes.specs.Tree.{AreTreeNodes}
use Rattle.fx_nodes.specs.declared.walk.TreeNode.{TreeNode}
use Rattle.fx_store.specs.Nodes.{NodeTable}
use Rattle.fx_store.specs.declared.opening.TheConstants.{MAX_OPENING_NODES}

-- a node of that kind which holds nothing
abbrev pub empty_node : Kind → Node
empty_node Dir = empty_dir
empty_node File = empty_file

-- A node of that kind may be made at the path: what the path goes through are directories, nothing
-- lies there yet, and a file does not lie in the root.
pub record MayStand (tree : Tree) (path : List (List ℕ)) (kind : Kind) : Type 0 where
  pub above : List (List ℕ)
  pub name : List ℕ
  pub path_is : path ≡ above ++ name ∷ []
  pub way : walk tree path ≡ None
  pub free : get tree path ≡ None
  pub volume : kind ≡ File → above ≢ []

-- The nodes may be made one after another: no path is there twice or empty, what lies above a node
-- is a directory before it, and no file lies in the root.
pub record AreParentsFirst (nodes : List TreeNode) : Type 0 where
  pub once : (i j : ℕ) (x y : TreeNode) → slice_get nodes i ≡ Some x → slice_get nodes j ≡ Some y
      → x.path ≡ y.path → i ≡ j
  pub named : (i : ℕ) (x : TreeNode) → slice_get nodes i ≡ Some x → x.path ≢ []
  pub parent : (i : ℕ) (x : TreeNode) (above : List (List ℕ)) (name : List ℕ)
      → slice_get nodes i ≡ Some x → x.path ≡ above ++ name ∷ [] → above ≢ []
      → (j : ℕ) × (y : TreeNode) × (j < i) × (slice_get nodes j ≡ Some y)
      × (y.path ≡ above) × (y.kind ≡ Dir)
  pub volume : (i : ℕ) (x : TreeNode) (name : List ℕ) → slice_get nodes i ≡ Some x
      → x.path ≡ name ∷ [] → x.kind ≡ Dir

-- The items lead to fewer nodes than a store may begin with.
abbrev pub HasFewNodes : ItemMap → Type 0
HasFewNodes m = (nodes : List TreeNode) → AreTreeNodes m nodes → length nodes < MAX_OPENING_NODES

-- The tree has the root and the first n of the nodes, and nothing else.
pub record HasNodes (nodes : List TreeNode) (n : ℕ) (tree : Tree) : Type 0 where
  pub is_tree : IsTree tree
  pub listed : (i : ℕ) (x : TreeNode) → i < n → slice_get nodes i ≡ Some x
      → get tree x.path ≡ Some (empty_node x.kind)
  pub only : (path : List (List ℕ)) (node : Node) → get tree path ≡ Some node
      → (path ≡ [])
      ⊎ ((i : ℕ) × (x : TreeNode) × (i < n) × (slice_get nodes i ≡ Some x) × (x.path ≡ path))

-- The table has the root, and the nodes of the paths of the first n of the nodes.
pub record HasPaths (nodes : List TreeNode) (n : ℕ) (table : NodeTable) : Type 0 where
  pub top : get table [] ≡ Some root_node
  pub listed : (i : ℕ) (x : TreeNode) → i < n → slice_get nodes i ≡ Some x
      → get table x.path ≡ Some x.node
