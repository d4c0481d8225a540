-- A step at the node of its path is a step on the tree.
use Rattle.std.proofs.Common.{◌≡◌, ℕ, ◌+◌, Bool, true, false, cond, List, [], ◌∷◌, length, refl, sym, ap, ◌∙◌}
use Rattle.std.specs.Prelude.{Option, None, Some, Result, Ok, Err, nat_lt}
use Rattle.std.specs.FinMap as finite
use Rattle.std.specs.FinMap.{get, insert}
use Rattle.fx_plain.specs.Node.{Node, Dir, File, written}
use Rattle.fx_plain.specs.Tree.{Tree}
use Rattle.fx_plain.specs.Table.{walk, write_at}
use Rattle.fx_plain.specs.declared.contents.TheConstants.{MAX_FILE}
use Rattle.fx_plain.specs.declared.step.Step.{Step}
use Rattle.fx_plain.specs.declared.step.Step.TheVariants.{Write}
use Rattle.fx_plain.specs.declared.step.Answer.{Answer}
use Rattle.fx_plain.specs.declared.step.Answer.TheVariants.{Done}
use Rattle.fx_plain.specs.declared.step.Refusal.{Refusal}
use Rattle.fx_plain.specs.declared.step.Refusal.TheVariants.{IsDir, NotFound, TooLong}
use Rattle.fx_plain.specs.Memory.{write_node}
use Rattle.fx_plain.proofs.Views.{insert_same}
use Rattle.fx_contents.specs.Cuts.{truncated}
use Rattle.fx_contents.specs.Marks.{marked_node}
use Rattle.fx_steps.specs.declared.step.TreeStep.{TreeStep}
use Rattle.fx_steps.specs.declared.step.TreeStep.TheVariants.{Basic, Truncate, SetAttr, DelAttr}
use Rattle.fx_steps.specs.declared.refusal.StepRefusal.{StepRefusal}
use Rattle.fx_steps.specs.declared.refusal.StepRefusal.TheVariants as refusals
use Rattle.fx_steps.specs.Rows.{Stepped, attributes_of_node, del_attr_at, del_attr_step, do_tree_step, refuses, refuses_basic, set_attr_at, set_attr_step, truncate_at, with_basic, without_attr}
use Rattle.fx_memtree.specs.Memory.{basic_at_node, node_step, put_node, step_at_node, step_below_root, truncate_node, unset_node}

abbrev Path : Type 0
Path = List (List ℕ)

abbrev with_basic_pair : Result Answer Refusal × Tree → Stepped
with_basic_pair s = (with_basic s.0, s.1)

-- a refusal at the node leaves the tree
left_there : (tree : Tree) (path : Path) (node : Node) (refusal : StepRefusal) → get tree path ≡ Some node → refuses tree refusal ≡ put_node tree path (Err refusal, node)
left_there tree path node refusal is = ap (λ t. (Err refusal, t)) (sym (insert_same tree path node is))

write_row : (tree : Tree) (path : Path) (at : ℕ) (text : List ℕ) (way : Option Refusal) (there : Option Node) → get tree path ≡ there
    → with_basic_pair (write_at tree path at text way there) ≡ step_at_node tree path (Basic (Write path at text)) way there
write_row tree path at text (Some refusal) there is = refl
write_row tree path at text None None is = refl
write_row tree path at text None (Some (Dir attributes)) is = left_there tree path (Dir attributes) (refusals.Basic IsDir) is
write_row tree path at text None (Some (File contents attributes)) is = by (nat_lt MAX_FILE (at + length text))
  where
    by : (b : Bool) → with_basic_pair (cond b (let a : Result Answer Refusal × Tree = (Err TooLong, tree) in a) (Ok Done, insert tree path (File (written at text contents) attributes)))
        ≡ put_node tree path (basic_at_node (cond b (let a : Result Answer Refusal × Node = (Err TooLong, File contents attributes) in a) (Ok Done, File (written at text contents) attributes)))
    by true = left_there tree path (File contents attributes) (refusals.Basic TooLong) is
    by false = refl

truncate_row : (tree : Tree) (path : Path) (size : ℕ) (way : Option Refusal) (there : Option Node) → get tree path ≡ there
    → truncate_at tree path size way there ≡ step_at_node tree path (Truncate path size) way there
truncate_row tree path size (Some refusal) there is = refl
truncate_row tree path size None None is = refl
truncate_row tree path size None (Some (Dir attributes)) is = left_there tree path (Dir attributes) (refusals.Basic IsDir) is
truncate_row tree path size None (Some (File contents attributes)) is = by (nat_lt MAX_FILE size)
  where
    by : (b : Bool) → cond b (refuses_basic tree TooLong) (Ok Done, insert tree path (File (truncated size contents) attributes))
        ≡ put_node tree path (basic_at_node (cond b (let a : Result Answer Refusal × Node = (Err TooLong, File contents attributes) in a) (Ok Done, File (truncated size contents) attributes)))
    by true = left_there tree path (File contents attributes) (refusals.Basic TooLong) is
    by false = refl

set_row : (tree : Tree) (path : Path) (name value : List ℕ) (step : TreeStep) → step ≡ SetAttr path name value → (way : Option Refusal) (there : Option Node) → set_attr_at tree path name value way there ≡ step_at_node tree path (SetAttr path name value) way there
set_row tree path name value step same (Some refusal) there = refl
set_row tree path name value step same None None = refl
set_row tree path name value step same None (Some node) = refl

del_row : (tree : Tree) (path : Path) (name : List ℕ) (way : Option Refusal) (there : Option Node) → get tree path ≡ there → del_attr_at tree path name way there ≡ step_at_node tree path (DelAttr path name) way there
del_row tree path name (Some refusal) there is = refl
del_row tree path name None None is = refl
del_row tree path name None (Some node) is = by (get (attributes_of_node node) name)
  where
    by : (o : Option (List ℕ)) → without_attr tree path name node o ≡ put_node tree path (unset_node name node o)
    by None = left_there tree path node refusals.NoAttr is
    by (Some value) = refl

pub write_at_node : (tree : Tree) (path : Path) (at : ℕ) (text : List ℕ) → do_tree_step tree (Basic (Write path at text)) ≡ step_at_node tree path (Basic (Write path at text)) (walk tree path) (get tree path)
write_at_node tree path at text = write_row tree path at text (walk tree path) (get tree path) refl

pub truncate_at_node : (tree : Tree) (path : Path) (size : ℕ) → do_tree_step tree (Truncate path size) ≡ step_at_node tree path (Truncate path size) (walk tree path) (get tree path)
truncate_at_node tree path size = truncate_row tree path size (walk tree path) (get tree path) refl

pub set_below_root : (tree : Tree) (path : Path) (name value : List ℕ) → do_tree_step tree (SetAttr path name value) ≡ step_below_root tree path (SetAttr path name value)
set_below_root tree [] name value = refl
set_below_root tree (first ∷ names) name value = set_row tree (first ∷ names) name value (SetAttr (first ∷ names) name value) refl (walk tree (first ∷ names)) (get tree (first ∷ names))

pub del_below_root : (tree : Tree) (path : Path) (name : List ℕ) → do_tree_step tree (DelAttr path name) ≡ step_below_root tree path (DelAttr path name)
del_below_root tree [] name = refl
del_below_root tree (first ∷ names) name = del_row tree (first ∷ names) name (walk tree (first ∷ names)) (get tree (first ∷ names)) refl

-- what is done at the node that lies at the path
pub done_there : (tree after : Tree) (path : Path) (step : TreeStep) (old new : Node) (answer : Result Answer StepRefusal) → None ≡ walk tree path → get tree path ≡ Some old → after ≡ insert tree path new → node_step step old ≡ (answer, new)
    → step_at_node tree path step (walk tree path) (get tree path) ≡ (answer, after)
done_there tree after path step old new answer way there is done =
    (λ i. step_at_node tree path step (sym way i) (there i))
    ∙ ap (put_node tree path) done
    ∙ ap (λ t. (answer, t)) (sym is)

-- no node lies there
pub done_nowhere : (tree after : Tree) (path : Path) (step : TreeStep) → None ≡ walk tree path → get tree path ≡ None → after ≡ tree → step_at_node tree path step (walk tree path) (get tree path) ≡ (Err (refusals.Basic NotFound), after)
done_nowhere tree after path step way there is =
    (λ i. step_at_node tree path step (sym way i) (there i)) ∙ ap (λ t. (Err (refusals.Basic NotFound), t)) (sym is)

-- ---- the same where the step and its path are known by equations

pub written_step : (tree : Tree) (step : TreeStep) (one : Step) (p path : Path) (at : ℕ) (text : List ℕ) → step ≡ Basic one → one ≡ Write path at text → p ≡ path → do_tree_step tree (Basic one) ≡ step_at_node tree p step (walk tree p) (get tree p)
written_step tree step one p path at text basic is same =
    ap (λ s. do_tree_step tree (Basic s)) is ∙ write_at_node tree path at text
    ∙ (λ i. step_at_node tree (sym same i) (sym (basic ∙ ap Basic is) i) (walk tree (sym same i)) (get tree (sym same i)))

pub truncate_step : (tree : Tree) (step : TreeStep) (p path : Path) (size : ℕ) → step ≡ Truncate path size → p ≡ path → do_tree_step tree step ≡ step_at_node tree p step (walk tree p) (get tree p)
truncate_step tree step p path size is same =
    ap (do_tree_step tree) is ∙ truncate_at_node tree path size
    ∙ (λ i. step_at_node tree (sym same i) (sym is i) (walk tree (sym same i)) (get tree (sym same i)))

pub del_step : (tree : Tree) (step : TreeStep) (p path : Path) (name : List ℕ) → step ≡ DelAttr path name → p ≡ path → do_tree_step tree step ≡ step_below_root tree p step
del_step tree step p path name is same =
    ap (do_tree_step tree) is ∙ del_below_root tree path name
    ∙ (λ i. step_below_root tree (sym same i) (sym is i))
