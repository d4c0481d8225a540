-- How the children of a directory are found one after another.
use Rattle.std.specs.Prelude.{◌≡◌, ℕ, ◌<◌, Bool, List, [], ◌∷◌, ◌++◌, if◌then◌else◌, length, filter, filter_map}
use Rattle.std.specs.Ordering.{is_le}
use Rattle.std.specs.FinMap.{keys}
use Rattle.fx_plain.specs.Tree.{Tree, child_name, path_cmp}

-- the paths that are not before this one, in their order
abbrev pub paths_from : Tree → List (List ℕ) → List (List (List ℕ))
paths_from tree from = filter (λ path. is_le (path_cmp from path)) (keys tree)

-- the names of the children among those paths
abbrev pub children_from : Tree → List (List ℕ) → List (List ℕ) → List (List ℕ)
children_from tree directory from = filter_map (child_name directory) (paths_from tree from)

-- the first path that comes after all paths below the child with this name
abbrev pub past_child : List (List ℕ) → List ℕ → List (List ℕ)
past_child directory name = directory ++ (name ++ 0 ∷ []) ∷ []

-- the paths from `from` on go on with this name, which is that of a child or not
pub record NextName (tree : Tree) (directory from : List (List ℕ)) (name : List ℕ)
    (is_child : Bool) : Type 0 where
  pub names : children_from tree directory from
      ≡ (if is_child then name ∷ [] else [])
      ++ children_from tree directory (past_child directory name)
  pub fewer : length (paths_from tree (past_child directory name)) < length (paths_from tree from)

-- a path of the directory's children, whether it is there or not
abbrev pub IsChildPath : List (List ℕ) → List (List ℕ) → Type 0
IsChildPath directory path = (name : List ℕ) × (path ≡ directory ++ name ∷ [])

-- the first of a list
abbrev pub IsFirst : List (List ℕ) → List (List (List ℕ)) → Type 0
IsFirst path paths = (rest : List (List (List ℕ))) × (paths ≡ path ∷ rest)
