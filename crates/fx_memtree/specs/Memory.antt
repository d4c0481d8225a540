-- What is done at one node, and the tree with the node after it.
use Rattle.std.specs.Prelude.{ℕ, List, [], ◌∷◌, Option, None, Some, Result, Ok, Err, if◌then◌else◌, nat_lt}
use Rattle.std.specs.FinMap as finite
use Rattle.fx_plain.specs.Node.{Node, Dir, File}
use Rattle.fx_plain.specs.Tree.{Tree}
use Rattle.fx_plain.specs.Memory.{write_node}
use Rattle.fx_plain.specs.Table.{walk}
use Rattle.fx_plain.specs.declared.contents.TheConstants.{MAX_FILE}
use Rattle.fx_plain.specs.declared.step.Step.TheVariants.{Write}
use Rattle.fx_plain.specs.declared.step.Answer.{Answer}
use Rattle.fx_plain.specs.declared.step.Answer.TheVariants.{Done}
use Rattle.fx_plain.specs.declared.step.Refusal.{Refusal}
use Rattle.fx_plain.specs.declared.step.Refusal.TheVariants.{IsDir, NotFound, NotVolume, TooLong}
use Rattle.fx_contents.specs.Cuts.{truncated}
use Rattle.fx_contents.specs.Marks.{marked_node}
use Rattle.fx_steps.specs.declared.step.TreeStep.{TreeStep}
use Rattle.fx_steps.specs.declared.step.TreeStep.TheVariants.{Basic, Truncate, SetAttr, DelAttr}
use Rattle.fx_steps.specs.declared.refusal.StepRefusal.{StepRefusal}
use Rattle.fx_steps.specs.declared.refusal.StepRefusal.TheVariants as refusals
use Rattle.fx_steps.specs.Rows.{Stepped, attributes_of_node, refuses_basic, with_basic}

-- what a truncation of the node answers, and the node after it
abbrev pub truncate_node : ℕ → Node → Result Answer Refusal × Node
truncate_node size (Dir attributes) = (Err IsDir, Dir attributes)
truncate_node size (File contents attributes) =
    if nat_lt MAX_FILE size then (Err TooLong, File contents attributes)
    else (Ok Done, File (truncated size contents) attributes)

abbrev pub basic_at_node : Result Answer Refusal × Node → Result Answer StepRefusal × Node
basic_at_node outcome = (with_basic outcome.0, outcome.1)

abbrev pub unset_node : List ℕ → Node → Option (List ℕ) → Result Answer StepRefusal × Node
unset_node name node None = (Err refusals.NoAttr, node)
unset_node name node (Some value) = (Ok Done, marked_node name None node)

-- what a step that changes the node at its path answers, and the node after it; any other step
-- leaves the node
abbrev pub node_step : TreeStep → Node → Result Answer StepRefusal × Node
node_step (Basic (Write path at text)) node = basic_at_node (write_node at text node)
node_step (Truncate path size) node = basic_at_node (truncate_node size node)
node_step (SetAttr path name value) node = (Ok Done, marked_node name (Some value) node)
node_step (DelAttr path name) node =
    unset_node name node (finite.get (attributes_of_node node) name)
node_step step node = (Ok Done, node)

abbrev pub put_node : Tree → List (List ℕ) → Result Answer StepRefusal × Node → Stepped
put_node tree path outcome = (outcome.0, finite.insert tree path outcome.1)

-- the step at the node, by what the walk meets and what lies at the path
abbrev pub step_at_node : Tree → List (List ℕ) → TreeStep → Option Refusal → Option Node → Stepped
step_at_node tree path step (Some refusal) there = refuses_basic tree refusal
step_at_node tree path step None None = refuses_basic tree NotFound
step_at_node tree path step None (Some node) = put_node tree path (node_step step node)

abbrev pub step_below_root : Tree → List (List ℕ) → TreeStep → Stepped
step_below_root tree [] step = refuses_basic tree NotVolume
step_below_root tree (first ∷ names) step =
    step_at_node tree (first ∷ names) step (walk tree (first ∷ names))
    (finite.get tree (first ∷ names))
