-- What a walk along a path meets.
use Rattle.std.specs.Prelude.{◌≡◌, ℕ, ◌<◌, List, length, take, Option, Some, None, option_map, slice_get}
use Rattle.std.specs.FinMap.{get}
use Rattle.fx_item.specs.Look.{ItemMap}
use Rattle.fx_item.specs.declared.lock.LockKey.{LockKey}
use Rattle.fx_plain.specs.Node as plain
use Rattle.fx_plain.specs.Table.{walk}
use Rattle.fx_plain.specs.Tree.{Tree}
use Rattle.fx_plain.specs.declared.kind.Kind.{Kind}
use Rattle.fx_plain.specs.declared.kind.Kind.TheVariants.{Dir, File}
use Rattle.fx_plain.specs.declared.step.Refusal.{Refusal}
use Rattle.fx_plain.specs.declared.step.Refusal.TheVariants.{NotFound, NotDir}
use Rattle.fx_namespace.specs.Nodes.{child, kind_at, kind_of, node_at}
use Rattle.fx_dir.specs.declared.walk.WalkEnd.{WalkEnd}
use Rattle.fx_dir.specs.declared.walk.WalkEnd.TheVariants.{Node, Missing, Stopped}

-- a node with its kind, where it has one
abbrev pub with_kind : ItemMap → Option LockKey → Option (LockKey × Kind)
with_kind m None = None
with_kind m (Some node) = option_map (λ kind. (node, kind)) (kind_of m node)

-- the child of that name in a node, with its kind
abbrev pub child_with_kind : ItemMap → LockKey → List ℕ → Option (LockKey × Kind)
child_with_kind m at name = with_kind m (child m at name)

-- why no path goes through what lies there
abbrev pub refusal_of : Option Kind → Option Refusal
refusal_of None = Some NotFound
refusal_of (Some Dir) = None
refusal_of (Some File) = Some NotDir

-- the nodes that the first 0, 1, 2 .. names of a path lead to, all directories
pub record GoesThrough (m : ItemMap) (path : List (List ℕ)) (dirs : List LockKey) : Type 0 where
  pub node : (i : ℕ) (dir : LockKey) → slice_get dirs i ≡ Some dir
      → node_at m (take i path) ≡ Some dir
  pub kind : (i : ℕ) (dir : LockKey) → slice_get dirs i ≡ Some dir → kind_of m dir ≡ Some Dir

-- Where a walk that goes through n directories ends: at the path's own node, or at the path where
-- nothing is there; or before that, at what is no directory.
abbrev pub EndsAfter : ItemMap → List (List ℕ) → ℕ → WalkEnd → Type 0
EndsAfter m path n (Node node kind) =
    (n ≡ length path) × (node_at m path ≡ Some node) × (kind_of m node ≡ Some kind)
EndsAfter m path n Missing = (n ≡ length path) × (kind_at m path ≡ None)
EndsAfter m path n (Stopped refusal) =
    (n < length path) × (refusal_of (kind_at m (take n path)) ≡ Some refusal)

abbrev pub kind_in_tree : plain.Node → Kind
kind_in_tree (plain.Dir attributes) = Dir
kind_in_tree (plain.File contents attributes) = File

-- What the walk of a tree meets, and what the tree has at the path.
abbrev pub EndsInTree : Tree → List (List ℕ) → WalkEnd → Type 0
EndsInTree tree path (Node node kind) =
    (walk tree path ≡ None) × (option_map kind_in_tree (get tree path) ≡ Some kind)
EndsInTree tree path Missing = (walk tree path ≡ None) × (get tree path ≡ None)
EndsInTree tree path (Stopped refusal) = walk tree path ≡ Some refusal
