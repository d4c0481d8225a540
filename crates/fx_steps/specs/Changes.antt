-- What a step that is done changes of a tree, and of its sizes.
use Rattle.std.specs.Prelude.{◌≡◌, ◌≢◌, ℕ, ◌+◌, ◌≤◌, Bool, true, false, List, [], ◌∷◌, ◌++◌, Some, None, if◌then◌else◌, is_some, length, sum_by}
use Rattle.std.specs.List.{AllByRecursion}
use Rattle.std.specs.FinMap as finite
use Rattle.fx_item.specs.declared.Sizes.{Sizes}
use Rattle.fx_plain.specs.Node.{Attributes, Contents, Node, Dir, File}
use Rattle.fx_plain.specs.Tree.{IsDirAt, Tree, attribute_count, children, held_count, sizes_of}
use Rattle.fx_plain.specs.declared.path.TheConstants.{MAX_NAMES}
use Rattle.fx_plain.specs.declared.step.Step.{Step}
use Rattle.fx_plain.specs.declared.step.Step.TheVariants as basic
use Rattle.fx_steps.specs.declared.step.TreeStep.{TreeStep}
use Rattle.fx_steps.specs.declared.step.TreeStep.TheVariants.{Basic, Truncate, Remove, Rename, SetAttr, DelAttr, GetAttr}
use Rattle.fx_steps.specs.Moved.{IsMoved, lies_below, moved}

-- the paths that a step names
abbrev pub basic_path : Step → List (List ℕ)
basic_path (basic.Mkdir path) = path
basic_path (basic.Create path) = path
basic_path (basic.Write path at text) = path
basic_path (basic.Read path at count) = path
basic_path (basic.List path) = path
basic_path (basic.Stat path) = path

abbrev pub named_paths : TreeStep → List (List (List ℕ))
named_paths (Basic step) = basic_path step ∷ []
named_paths (Truncate path size) = path ∷ []
named_paths (Remove path) = path ∷ []
named_paths (Rename from to) = from ∷ to ∷ []
named_paths (SetAttr path name value) = path ∷ []
named_paths (DelAttr path name) = path ∷ []
named_paths (GetAttr path name) = path ∷ []

-- the path lies at none of these, nor below one
abbrev pub LiesApart : List (List (List ℕ)) → List (List ℕ) → Type 0
LiesApart named path = AllByRecursion (λ one. lies_below one path ≡ false) named

-- a file, or a directory without children, is gone from the path, and nothing else changed
pub record IsRemoved (tree : Tree) (path : List (List ℕ)) (after : Tree) : Type 0 where
  pub node : Node
  pub there : finite.get tree path ≡ Some node
  pub below_root : path ≢ []
  pub childless : (attributes : Attributes) → node ≡ Dir attributes → children tree path ≡ []
  pub removed : after ≡ finite.remove tree path

-- both paths lie below one volume
pub record AreInVolume (from to : List (List ℕ)) : Type 0 where
  pub volume : List ℕ
  pub from_below : List (List ℕ)
  pub to_below : List (List ℕ)
  pub from_in : from ≡ volume ∷ from_below
  pub to_in : to ≡ volume ∷ to_below

-- What lay at a path and below it lies at another one of the same volume, below a directory.
-- Nothing lay there or below it before, neither path lies below the other, and no path has too many
-- names afterwards.
pub record IsRenamed (tree : Tree) (from to : List (List ℕ)) (after : Tree) : Type 0 where
  pub node : Node
  pub there : finite.get tree from ≡ Some node
  pub in_volume : AreInVolume from to
  pub above : List (List ℕ)
  pub name : List ℕ
  pub to_is : to ≡ above ++ name ∷ []
  pub directory : IsDirAt tree above
  pub free : (rest : List (List ℕ)) → finite.get tree (to ++ rest) ≡ None
  pub not_into : (rest : List (List ℕ)) → to ≢ from ++ rest
  pub not_onto : (rest : List (List ℕ)) → from ≢ to ++ rest
  pub shallow : (rest : List (List ℕ)) (below : Node) → finite.get tree (from ++ rest) ≡ Some below
      → length (to ++ rest) ≤ MAX_NAMES
  pub is_moved : IsMoved (finite.get tree) (finite.get after) from to

-- the sizes once a node stands in the place of another
pub record IsSizedAnew (old new : Sizes) (before after : Node) : Type 0 where
  pub nodes : new.nodes ≡ old.nodes
  pub attributes : new.attributes + attribute_count before ≡ old.attributes + attribute_count after
  pub blocks : new.blocks + held_count before ≡ old.blocks + held_count after

-- the sizes once a node stands where none stood
pub record IsSizedMore (old new : Sizes) (node : Node) : Type 0 where
  pub nodes : new.nodes ≡ old.nodes + 1
  pub attributes : new.attributes ≡ old.attributes + attribute_count node
  pub blocks : new.blocks ≡ old.blocks + held_count node

-- the sizes once a node below the root is gone
pub record IsSizedLess (old new : Sizes) (node : Node) : Type 0 where
  pub nodes : new.nodes + 1 ≡ old.nodes
  pub attributes : new.attributes + attribute_count node ≡ old.attributes
  pub blocks : new.blocks + held_count node ≡ old.blocks
