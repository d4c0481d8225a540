-- A tree without what its files hold, and what a step that is done changes of it.
use Rattle.std.specs.Prelude.{◌≡◌, ◌≢◌, ℕ, List, [], ◌∷◌, ◌++◌, None, Some, map}
use Rattle.std.specs.FinMap as finite
use Rattle.fx_plain.specs.Node.{Attributes, Contents, Node, Dir, File, empty_file, no_contents, written}
use Rattle.fx_plain.specs.Tree.{Tree}

-- a directory as it is, and a file with no bytes and no held blocks
abbrev pub bare_node : Node → Node
bare_node (Dir attributes) = Dir attributes
bare_node (File contents attributes) = File no_contents attributes

-- the tree with each of its nodes bare
unfoldable pub bare : Tree → Tree
bare tree = finite.from_entries (map (λ e. (e.0, bare_node e.1)) (finite.entries tree))

-- a bare node stands at the path after the step; before it nothing stood there, and the path above
-- was a directory
pub record IsPlaced (tree : Tree) (path : List (List ℕ)) (node : Node) (after : Tree) : Type 0 where
  pub above : List (List ℕ)
  pub name : List ℕ
  pub path_is : path ≡ above ++ name ∷ []
  pub attributes : Attributes
  pub directory : finite.get tree above ≡ Some (Dir attributes)
  pub free : finite.get tree path ≡ None
  pub inserted : after ≡ finite.insert tree path node
  pub bare_inserted : bare after ≡ finite.insert (bare tree) path node

-- an empty file stands there, below a volume
pub record IsCreated (tree : Tree) (path : List (List ℕ)) (after : Tree) : Type 0 where
  pub made : IsPlaced tree path empty_file after
  pub in_volume : made.above ≢ []

-- the file at the path holds the text, and nothing else changed
pub record IsWritten (tree : Tree) (path : List (List ℕ)) (at : ℕ) (text : List ℕ)
    (after : Tree) : Type 0 where
  pub contents : Contents
  pub attributes : Attributes
  pub file : finite.get tree path ≡ Some (File contents attributes)
  pub below_root : path ≢ []
  pub inserted : after ≡ finite.insert tree path (File (written at text contents) attributes)
  pub bare_kept : bare after ≡ bare tree
