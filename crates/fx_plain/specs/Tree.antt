-- The plain tree: what lies at each path.
use Rattle.std.specs.Prelude.{◌≡◌, ℕ, ◌-◌, ◌<◌, ◌^◌, List, [], ◌∷◌, ◌++◌, Option, None, Some, if◌then◌else◌, filter_map, sum_by}
use Rattle.std.specs.Ordering.{eq_by_cmp}
use Rattle.std.specs.declared.cmp.Ordering.{Ordering}
use Rattle.std.specs.Cmp.Lexicographic.{slice_cmp}
use Rattle.std.specs.FinMap as map
use Rattle.std.specs.FinSet as set
use Rattle.fx_item.specs.Name.{name_cmp}
use Rattle.fx_item.specs.declared.Sizes.{Sizes}
use Rattle.fx_plain.specs.Node.{Attributes, Node, Dir, File, empty_dir}

-- paths name by name
abbrev pub path_cmp : List (List ℕ) → List (List ℕ) → Ordering
path_cmp = slice_cmp name_cmp

abbrev pub Tree : Type 0
Tree = map.FinMap path_cmp Node

-- the root alone
abbrev pub root : Tree
root = map.insert map.empty [] empty_dir

-- a directory lies at the path
abbrev pub IsDirAt : Tree → List (List ℕ) → Type 0
IsDirAt tree path = (attributes : Attributes) × (map.get tree path ≡ Some (Dir attributes))

-- the root is a directory without attributes, and whatever a path goes through is a directory
pub record IsTree (tree : Tree) : Type 0 where
  pub top : map.get tree [] ≡ Some empty_dir
  pub above : (path : List (List ℕ)) (name : List ℕ) (node : Node)
      → map.get tree (path ++ name ∷ []) ≡ Some node → IsDirAt tree path

-- the last name of a path that has one name more than the directory's, and else begins as that does
abbrev pub child_name : List (List ℕ) → List (List ℕ) → Option (List ℕ)
child_name [] [] = None
child_name [] (name ∷ []) = Some name
child_name [] (name ∷ more ∷ names) = None
child_name (above ∷ directory) [] = None
child_name (above ∷ directory) (name ∷ names) =
    if eq_by_cmp name_cmp above name then child_name directory names else None

-- the names of a directory's children, in the order of their bytes
abbrev pub children : Tree → List (List ℕ) → List (List ℕ)
children tree directory = filter_map (child_name directory) (map.keys tree)

abbrev pub attribute_count : Node → ℕ
attribute_count (Dir attributes) = map.len attributes
attribute_count (File contents attributes) = map.len attributes

abbrev pub held_count : Node → ℕ
held_count (Dir attributes) = 0
held_count (File contents attributes) = set.len contents.held

-- all nodes, the root among them
abbrev pub node_count : Tree → ℕ
node_count tree = map.len tree

-- so few nodes that those of each directory are counted in 32 bits
abbrev pub IsCountable : Tree → Type 0
IsCountable tree = node_count tree < 2 ^ 32

-- nodes but the root, attributes, and held blocks
abbrev pub sizes_of : Tree → Sizes
sizes_of tree = record {
  nodes = map.len tree - 1;
  attributes = sum_by attribute_count (map.values tree);
  blocks = sum_by held_count (map.values tree);
}
