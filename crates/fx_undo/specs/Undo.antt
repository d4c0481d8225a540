-- What undoes a step that is done, and the steps of a line.
use Rattle.std.specs.Prelude.{ℕ, List, [], ◌∷◌, Option, None, Some}
use Rattle.std.specs.FinMap as finite
use Rattle.fx_plain.specs.Node.{Node}
use Rattle.fx_plain.specs.Tree.{Tree}
use Rattle.fx_plain.specs.declared.step.Step.{Step}
use Rattle.fx_plain.specs.declared.step.Step.TheVariants.{Mkdir, Create, Write}
use Rattle.fx_steps.specs.declared.step.TreeStep.{TreeStep}
use Rattle.fx_steps.specs.declared.step.TreeStep.TheVariants.{Basic, Truncate, Remove, Rename, SetAttr, DelAttr, GetAttr}
use Rattle.fx_steps.specs.Moved.{moved}
use Rattle.fx_steps.specs.Rows.{do_tree_step}

-- the tree with that at the path again which lay there before
abbrev pub put_back : Tree → List (List ℕ) → Option Node → Tree
put_back after path None = finite.remove after path
put_back after path (Some node) = finite.insert after path node

abbrev pub undone_basic : Tree → Step → Tree → Tree
undone_basic tree (Mkdir path) after = put_back after path (finite.get tree path)
undone_basic tree (Create path) after = put_back after path (finite.get tree path)
undone_basic tree (Write path at text) after = put_back after path (finite.get tree path)
undone_basic tree step after = after

-- the tree before a step again, from the tree after it and what lay at its path before
abbrev pub undone : Tree → TreeStep → Tree → Tree
undone tree (Basic step) after = undone_basic tree step after
undone tree (Truncate path size) after = put_back after path (finite.get tree path)
undone tree (Remove path) after = put_back after path (finite.get tree path)
undone tree (Rename from to) after = moved after to from
undone tree (SetAttr path name value) after = put_back after path (finite.get tree path)
undone tree (DelAttr path name) after = put_back after path (finite.get tree path)
undone tree (GetAttr path name) after = after

-- the tree before steps again: the last one is undone first
abbrev pub undone_steps : Tree → List TreeStep → Tree → Tree
undone_steps tree [] after = after
undone_steps tree (step ∷ steps) after =
    undone tree step (undone_steps (do_tree_step tree step).1 steps after)
