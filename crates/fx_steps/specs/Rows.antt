-- What each step answers on a tree, and the tree after it.
use Rattle.std.specs.Prelude.{ℕ, ◌+◌, ◌-◌, ◌&&◌, Bool, true, false, List, [], ◌∷◌, Option, None, Some, Result, Ok, Err, if◌then◌else◌, is_some, nat_lt, length}
use Rattle.std.specs.List.{list_any}
use Rattle.std.specs.Ordering.{eq_by_cmp}
use Rattle.std.specs.FinMap as finite
use Rattle.fx_item.specs.Name.{name_cmp}
use Rattle.fx_plain.specs.Node.{Attributes, Node, Dir, File}
use Rattle.fx_plain.specs.Tree.{Tree, children}
use Rattle.fx_plain.specs.Table.{do_step, is_reading, walk}
use Rattle.fx_plain.specs.declared.contents.TheConstants.{MAX_FILE}
use Rattle.fx_plain.specs.declared.path.TheConstants.{MAX_NAMES}
use Rattle.fx_plain.specs.declared.step.Answer.{Answer}
use Rattle.fx_plain.specs.declared.step.Answer.TheVariants.{Done, Text}
use Rattle.fx_plain.specs.declared.step.Refusal.{Refusal}
use Rattle.fx_plain.specs.declared.step.Refusal.TheVariants.{NotFound, IsDir, Exists, NotVolume, TooLong}
use Rattle.fx_contents.specs.Cuts.{truncated}
use Rattle.fx_contents.specs.Marks.{marked_node}
use Rattle.fx_steps.specs.declared.step.TreeStep.{TreeStep}
use Rattle.fx_steps.specs.declared.step.TreeStep.TheVariants.{Basic, Truncate, Remove, Rename, SetAttr, DelAttr, GetAttr}
use Rattle.fx_steps.specs.declared.refusal.StepRefusal.{StepRefusal}
use Rattle.fx_steps.specs.declared.refusal.StepRefusal.TheVariants as refusals
use Rattle.fx_steps.specs.Moved.{has_below, lies_below, moved, rest_below}

-- what a step answers, or its refusal, and the tree after it
abbrev pub Stepped : Type 0
Stepped = Result Answer StepRefusal × Tree

abbrev pub refuses : Tree → StepRefusal → Stepped
refuses tree refusal = (Err refusal, tree)

-- one of the refusals that every step may meet
abbrev pub refuses_basic : Tree → Refusal → Stepped
refuses_basic tree refusal = refuses tree (refusals.Basic refusal)

abbrev pub with_basic : Result Answer Refusal → Result Answer StepRefusal
with_basic (Ok answer) = Ok answer
with_basic (Err refusal) = Err (refusals.Basic refusal)

-- the same where the refusal has the index of its step
abbrev pub with_basic_index : Result Tree (ℕ × Refusal) → Result Tree (ℕ × StepRefusal)
with_basic_index (Ok after) = Ok after
with_basic_index (Err refused) = Err (refused.0, refusals.Basic refused.1)

-- the file of that size, by what the walk meets and what lies at the path
abbrev pub truncate_at : Tree → List (List ℕ) → ℕ → Option Refusal → Option Node → Stepped
truncate_at tree path size (Some refusal) there = refuses_basic tree refusal
truncate_at tree path size None None = refuses_basic tree NotFound
truncate_at tree path size None (Some (Dir attributes)) = refuses_basic tree IsDir
truncate_at tree path size None (Some (File contents attributes)) =
    if nat_lt MAX_FILE size then refuses_basic tree TooLong
    else (Ok Done, finite.insert tree path (File (truncated size contents) attributes))

-- a directory goes where it has no children
abbrev pub if_childless : Tree → List (List ℕ) → List (List ℕ) → Stepped
if_childless tree path [] = (Ok Done, finite.remove tree path)
if_childless tree path (name ∷ names) = refuses tree refusals.NotEmpty

abbrev pub remove_at : Tree → List (List ℕ) → Option Refusal → Option Node → Stepped
remove_at tree path (Some refusal) there = refuses_basic tree refusal
remove_at tree path None None = refuses_basic tree NotFound
remove_at tree path None (Some (Dir attributes)) = if_childless tree path (children tree path)
remove_at tree path None (Some (File contents attributes)) = (Ok Done, finite.remove tree path)

abbrev pub remove_step : Tree → List (List ℕ) → Stepped
remove_step tree [] = refuses_basic tree NotVolume
remove_step tree (name ∷ names) =
    remove_at tree (name ∷ names) (walk tree (name ∷ names)) (finite.get tree (name ∷ names))

-- whether what lies at a path or below it would lie too deep at the other path
abbrev pub too_deep : Tree → List (List ℕ) → List (List ℕ) → Bool
too_deep tree from to =
    list_any
    (λ path. lies_below from path && nat_lt MAX_NAMES (length to + (length path - length from)))
    (finite.keys tree)

abbrev pub move_apart : Tree → List (List ℕ) → List (List ℕ) → Stepped
move_apart tree from to =
    if has_below tree to then refuses_basic tree Exists
    else if too_deep tree from to then refuses_basic tree TooLong
    else (Ok Done, moved tree from to)

-- by what the walk to the other path meets
abbrev pub move_to : Tree → List (List ℕ) → List (List ℕ) → Option Refusal → Stepped
move_to tree from to (Some refusal) = refuses_basic tree refusal
move_to tree from to None = move_apart tree from to

-- by whether the other path lies below the first, and whether both begin with one name
abbrev pub move_within : Tree → List (List ℕ) → List (List ℕ) → Bool → Bool → Stepped
move_within tree from to true same = refuses tree refusals.IntoItself
move_within tree from to false false = refuses tree refusals.CrossVolume
move_within tree from to false true = move_to tree from to (walk tree to)

-- by what the walk to the first path meets, and what lies there
abbrev pub move_from : Tree → List (List ℕ) → List (List ℕ) → Bool → Option Refusal → Option Node
    → Stepped
move_from tree from to same (Some refusal) there = refuses_basic tree refusal
move_from tree from to same None None = refuses_basic tree NotFound
move_from tree from to same None (Some node) =
    move_within tree from to (lies_below from to) same

abbrev pub rename_step : Tree → List (List ℕ) → List (List ℕ) → Stepped
rename_step tree [] to = refuses_basic tree NotVolume
rename_step tree (volume ∷ from) [] = refuses_basic tree NotVolume
rename_step tree (volume ∷ from) (other ∷ to) =
    move_from tree (volume ∷ from) (other ∷ to) (eq_by_cmp name_cmp volume other)
    (walk tree (volume ∷ from)) (finite.get tree (volume ∷ from))

abbrev pub attributes_of_node : Node → Attributes
attributes_of_node (Dir attributes) = attributes
attributes_of_node (File contents attributes) = attributes

-- the node with the attribute set
abbrev pub set_attr_at : Tree → List (List ℕ) → List ℕ → List ℕ → Option Refusal → Option Node
    → Stepped
set_attr_at tree path name value (Some refusal) there = refuses_basic tree refusal
set_attr_at tree path name value None None = refuses_basic tree NotFound
set_attr_at tree path name value None (Some node) =
    (Ok Done, finite.insert tree path (marked_node name (Some value) node))

abbrev pub set_attr_step : Tree → List (List ℕ) → List ℕ → List ℕ → Stepped
set_attr_step tree [] name value = refuses_basic tree NotVolume
set_attr_step tree (first ∷ names) name value =
    set_attr_at tree (first ∷ names) name value (walk tree (first ∷ names))
    (finite.get tree (first ∷ names))

-- the node without the attribute, by what it has under the name
abbrev pub without_attr : Tree → List (List ℕ) → List ℕ → Node → Option (List ℕ) → Stepped
without_attr tree path name node None = refuses tree refusals.NoAttr
without_attr tree path name node (Some value) =
    (Ok Done, finite.insert tree path (marked_node name None node))

abbrev pub del_attr_at : Tree → List (List ℕ) → List ℕ → Option Refusal → Option Node → Stepped
del_attr_at tree path name (Some refusal) there = refuses_basic tree refusal
del_attr_at tree path name None None = refuses_basic tree NotFound
del_attr_at tree path name None (Some node) =
    without_attr tree path name node (finite.get (attributes_of_node node) name)

abbrev pub del_attr_step : Tree → List (List ℕ) → List ℕ → Stepped
del_attr_step tree [] name = refuses_basic tree NotVolume
del_attr_step tree (first ∷ names) name =
    del_attr_at tree (first ∷ names) name (walk tree (first ∷ names))
    (finite.get tree (first ∷ names))

-- the text of an attribute
abbrev pub told_attr : Option (List ℕ) → Result Answer StepRefusal
told_attr None = Err refusals.NoAttr
told_attr (Some value) = Ok (Text value)

abbrev pub get_attr_at : List ℕ → Option Refusal → Option Node → Result Answer StepRefusal
get_attr_at name (Some refusal) there = Err (refusals.Basic refusal)
get_attr_at name None None = Err (refusals.Basic NotFound)
get_attr_at name None (Some node) = told_attr (finite.get (attributes_of_node node) name)

-- what a step answers, or its first refusal, and the tree after it
abbrev pub do_tree_step : Tree → TreeStep → Stepped
do_tree_step tree (Basic step) = (with_basic (do_step tree step).0, (do_step tree step).1)
do_tree_step tree (Truncate path size) =
    truncate_at tree path size (walk tree path) (finite.get tree path)
do_tree_step tree (Remove path) = remove_step tree path
do_tree_step tree (Rename from to) = rename_step tree from to
do_tree_step tree (SetAttr path name value) = set_attr_step tree path name value
do_tree_step tree (DelAttr path name) = del_attr_step tree path name
do_tree_step tree (GetAttr path name) =
    (get_attr_at name (walk tree path) (finite.get tree path), tree)

-- the step looks at the tree and leaves it
abbrev pub is_look : TreeStep → Bool
is_look (Basic step) = is_reading step
is_look (GetAttr path name) = true
is_look step = false
