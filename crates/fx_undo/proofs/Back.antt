-- A step that is done and undone leaves the tree.
use Rattle.std.proofs.Common.{◌≡◌, ◌≢◌, ◌⊎◌, inl, inr, ℕ, suc, ◌+◌, ◌-◌, ◌++◌, List, [], ◌∷◌, take, refl, sym, ap, subst, ◌∙◌, cond, arith}
use Rattle.std.specs.Prelude.{Bool, true, false, Option, Some, None, Result, Ok, Err, nat_lt, length}
use Rattle.std.specs.FinMap as finite
use Rattle.std.specs.FinMap.{get, get-insert, get-remove, same_map}
use Rattle.fx_plain.specs.Node.{Node, Dir, File, empty_dir, empty_file, written}
use Rattle.fx_plain.specs.Tree.{Tree}
use Rattle.fx_plain.specs.Table.{create, do_step, mkdir, place, walk, write_at}
use Rattle.fx_plain.specs.declared.contents.TheConstants.{MAX_FILE}
use Rattle.fx_plain.specs.declared.step.Step.{Step}
use Rattle.fx_plain.specs.declared.step.Step.TheVariants as basic
use Rattle.fx_plain.specs.declared.step.Answer.{Answer}
use Rattle.fx_plain.specs.declared.step.Answer.TheVariants.{Done}
use Rattle.fx_plain.specs.declared.step.Refusal.{Refusal}
use Rattle.fx_plain.specs.declared.step.Refusal.TheVariants.{TooLong}
use Rattle.fx_plain.proofs.Paths.{paths_exact, paths_total}
use Rattle.fx_contents.specs.Cuts.{truncated}
use Rattle.fx_contents.specs.Marks.{marked_node}
use Rattle.fx_steps.specs.declared.step.TreeStep.{TreeStep}
use Rattle.fx_steps.specs.declared.step.TreeStep.TheVariants.{Basic, Truncate, Remove, Rename, SetAttr, DelAttr, GetAttr}
use Rattle.fx_steps.specs.declared.refusal.StepRefusal.{StepRefusal}
use Rattle.fx_steps.specs.Changes.{IsRenamed}
use Rattle.fx_steps.specs.Moved.{IsMoved, moved}
use Rattle.fx_steps.specs.Rows.{do_tree_step, with_basic}
use Rattle.fx_steps.specs.Groups.{do_steps_from, do_tree_steps, next_step, tree_along}
use Rattle.fx_steps.proofs.Below.{Path, below_or_not, path_false, path_true, same_path}
use Rattle.fx_steps.proofs.MovedTree.{moves}
use Rattle.fx_steps.proofs.Done.{del_attr_done, remove_done, rename_done, set_attr_done, truncate_done}
use Rattle.fx_undo.specs.Undo.{put_back, undone, undone_basic, undone_steps}

-- ---- what lay at one path

-- two trees agree at every path but one
abbrev AgreeBut : Tree → Tree → Path → Type 0
AgreeBut tree after path = (q : Path) → q ≢ path → get after q ≡ get tree q

back_at : (tree after : Tree) (path : Path) → AgreeBut tree after path → put_back after path (get tree path) ≡ tree
back_at tree after path agree = by (get tree path) refl
  where
    at_node : (node : Node) (q : Path) → get tree path ≡ Some node → get (finite.insert after path node) q ≡ get tree q
    at_node node q there = elim (same_path q path) [
      | inl e ↦ get-insert paths_total after path node q ∙ ap (λ b. cond b (Some node) (get after q)) (path_true q path e) ∙ sym there ∙ ap (get tree) (sym e)
      | inr ne ↦ get-insert paths_total after path node q ∙ ap (λ b. cond b (Some node) (get after q)) (path_false q path ne) ∙ agree q ne
    ]

    at_none : (q : Path) → get tree path ≡ None → get (finite.remove after path) q ≡ get tree q
    at_none q there = elim (same_path q path) [
      | inl e ↦ get-remove paths_total after path q ∙ ap (λ b. cond b None (get after q)) (path_true q path e) ∙ sym there ∙ ap (get tree) (sym e)
      | inr ne ↦ get-remove paths_total after path q ∙ ap (λ b. cond b None (get after q)) (path_false q path ne) ∙ agree q ne
    ]

    by : (there : Option Node) → get tree path ≡ there → put_back after path there ≡ tree
    by None there = same_map paths_total paths_exact _ _ (λ q. at_none q there)
    by (Some node) there = same_map paths_total paths_exact _ _ (λ q. at_node node q there)

after_insert : (tree : Tree) (path : Path) (node : Node) → AgreeBut tree (finite.insert tree path node) path
after_insert tree path node q ne = get-insert paths_total tree path node q ∙ ap (λ b. cond b (Some node) (get tree q)) (path_false q path ne)

after_remove : (tree : Tree) (path : Path) → AgreeBut tree (finite.remove tree path) path
after_remove tree path q ne = get-remove paths_total tree path q ∙ ap (λ b. cond b None (get tree q)) (path_false q path ne)

-- a node stands at the path
back_inserted : (tree after : Tree) (path : Path) (node : Node) → after ≡ finite.insert tree path node → put_back after path (get tree path) ≡ tree
back_inserted tree after path node is = ap (λ t. put_back t path (get tree path)) is ∙ back_at tree (finite.insert tree path node) path (after_insert tree path node)

back_removed : (tree after : Tree) (path : Path) → after ≡ finite.remove tree path → put_back after path (get tree path) ≡ tree
back_removed tree after path is = ap (λ t. put_back t path (get tree path)) is ∙ back_at tree (finite.remove tree path) path (after_remove tree path)

-- ---- the basic steps

abbrev BackAt : Tree → Path → Result Answer Refusal × Tree → Type 0
BackAt tree path outcome = (answer : Answer) → outcome.0 ≡ Ok answer → put_back outcome.1 path (get tree path) ≡ tree

place_back : (tree : Tree) (path : Path) (node : Node) (way : Option Refusal) (there : Option Node) → BackAt tree path (place tree path node way there)
place_back tree path node (Some refusal) there answer e = absurd (cc e)
place_back tree path node None (Some other) answer e = absurd (cc e)
place_back tree path node None None answer e = back_inserted tree (finite.insert tree path node) path node refl

mkdir_back : (tree : Tree) (path : Path) → BackAt tree path (mkdir tree path)
mkdir_back tree [] answer e = absurd (cc e)
mkdir_back tree (name ∷ names) answer e = place_back tree (name ∷ names) empty_dir (walk tree (name ∷ names)) (get tree (name ∷ names)) answer e

create_back : (tree : Tree) (path : Path) → BackAt tree path (create tree path)
create_back tree [] answer e = absurd (cc e)
create_back tree (volume ∷ []) answer e = absurd (cc e)
create_back tree (volume ∷ name ∷ names) answer e = place_back tree (volume ∷ name ∷ names) empty_file (walk tree (volume ∷ name ∷ names)) (get tree (volume ∷ name ∷ names)) answer e

write_back : (tree : Tree) (path : Path) (at : ℕ) (text : List ℕ) (way : Option Refusal) (there : Option Node) → BackAt tree path (write_at tree path at text way there)
write_back tree path at text (Some refusal) there answer e = absurd (cc e)
write_back tree path at text None None answer e = absurd (cc e)
write_back tree path at text None (Some (Dir attributes)) answer e = absurd (cc e)
write_back tree path at text None (Some (File contents attributes)) answer e = by (nat_lt MAX_FILE (at + length text)) e
  where
    node : Node
    node = File (written at text contents) attributes

    long : Result Answer Refusal × Tree
    long = (Err TooLong, tree)

    by : (b : Bool) → (cond b long (Ok Done, finite.insert tree path node)).0 ≡ Ok answer → put_back (cond b long (Ok Done, finite.insert tree path node)).1 path (get tree path) ≡ tree
    by true e = absurd (cc e)
    by false e = back_inserted tree (finite.insert tree path node) path node refl

basic_ok : (found : Result Answer Refusal) (answer : Answer) → with_basic found ≡ Ok answer → found ≡ Ok answer
basic_ok (Ok other) answer e = let same : other ≡ answer = cc e in ap (λ a. Ok a) same
basic_ok (Err refusal) answer e = absurd (cc e)

basic_back : (tree : Tree) (step : Step) (answer : Answer) → (do_step tree step).0 ≡ Ok answer → undone_basic tree step (do_step tree step).1 ≡ tree
basic_back tree (basic.Mkdir path) answer e = mkdir_back tree path answer e
basic_back tree (basic.Create path) answer e = create_back tree path answer e
basic_back tree (basic.Write path at text) answer e = write_back tree path at text (walk tree path) (get tree path) answer e
basic_back tree (basic.Read path at count) answer e = refl
basic_back tree (basic.List path) answer e = refl
basic_back tree (basic.Stat path) answer e = refl

-- ---- a move

move_back : (tree : Tree) (from to : Path) (after : Tree) → IsRenamed tree from to after → moved after to from ≡ tree
move_back tree from to after change = same_map paths_total paths_exact _ _ (λ q. at q (below_or_not from q) (below_or_not to q))
  where
    again : IsMoved (get after) (get (moved after to from)) to from
    again = moves to from change.not_onto change.not_into after (λ rest. change.is_moved.gone rest)

    at : (q : Path) → ((r : Path) × (q ≡ from ++ r)) ⊎ ((r : Path) → q ≢ from ++ r) → ((r : Path) × (q ≡ to ++ r)) ⊎ ((r : Path) → q ≢ to ++ r) → get (moved after to from) q ≡ get tree q
    at q (inl f) other =
        ap (get (moved after to from)) f.1 ∙ again.inside f.0 ∙ change.is_moved.inside f.0 ∙ ap (get tree) (sym f.1)
    at q (inr not_from) (inl t) =
        ap (get (moved after to from)) t.1 ∙ again.gone t.0 ∙ sym (change.free t.0) ∙ ap (get tree) (sym t.1)
    at q (inr not_from) (inr not_to) =
        again.others q not_from not_to ∙ change.is_moved.others q not_to not_from

-- ---- all steps

pub step_back : (tree : Tree) (step : TreeStep) (answer : Answer) → (do_tree_step tree step).0 ≡ Ok answer → undone tree step (do_tree_step tree step).1 ≡ tree
step_back tree (Basic step) answer e = basic_back tree step answer (basic_ok (do_step tree step).0 answer e)
step_back tree (Truncate path size) answer e =
    let change = truncate_done tree path size answer e in
    back_inserted tree (do_tree_step tree (Truncate path size)).1 path (File (truncated size change.contents) change.attributes) change.inserted
step_back tree (Remove path) answer e = back_removed tree (do_tree_step tree (Remove path)).1 path (remove_done tree path answer e).removed
step_back tree (Rename from to) answer e =
    let change = rename_done tree from to answer e in
    move_back tree from to (do_tree_step tree (Rename from to)).1 change
step_back tree (SetAttr path name value) answer e =
    let change = set_attr_done tree path name value answer e in
    back_inserted tree (do_tree_step tree (SetAttr path name value)).1 path (marked_node name (Some value) change.node) change.inserted
step_back tree (DelAttr path name) answer e =
    let change = del_attr_done tree path name answer e in
    back_inserted tree (do_tree_step tree (DelAttr path name)).1 path (marked_node name None change.node) change.inserted
step_back tree (GetAttr path name) answer e = refl

-- ---- the steps of a line

line_from : (index : ℕ) (tree : Tree) (steps : List TreeStep) (after : Tree) → do_steps_from index tree steps ≡ Ok after → undone_steps tree steps after ≡ tree
line_from index tree [] after e = let same : tree ≡ after = cc e in sym same
line_from index tree (step ∷ steps) after e =
    by (do_tree_step tree step).0 refl (line_from (index + 1) (do_tree_step tree step).1 steps after) e
  where
    rest : Result Tree (ℕ × StepRefusal)
    rest = do_steps_from (index + 1) (do_tree_step tree step).1 steps

    by : (found : Result Answer StepRefusal) → (do_tree_step tree step).0 ≡ found → (rest ≡ Ok after → undone_steps (do_tree_step tree step).1 steps after ≡ (do_tree_step tree step).1) → next_step index found rest ≡ Ok after
        → undone tree step (undone_steps (do_tree_step tree step).1 steps after) ≡ tree
    by (Ok answer) done later e = ap (undone tree step) (later e) ∙ step_back tree step answer done
    by (Err refusal) done later e = absurd (cc e)

pub line_back : (tree : Tree) (steps : List TreeStep) (after : Tree) → do_tree_steps tree steps ≡ Ok after → undone_steps tree steps after ≡ tree
line_back tree steps after e = line_from 1 tree steps after e

abbrev index_in : Result Tree (ℕ × StepRefusal) → ℕ
index_in (Ok after) = 0
index_in (Err refused) = refused.0

-- so many steps were done before the refused one
record IsRefusedAfter (index start : ℕ) (tree : Tree) (steps : List TreeStep) : Type 0 where
  count : ℕ
  index_is : index ≡ start + count
  back : undone_steps tree (take count steps) (tree_along tree (take count steps)) ≡ tree

refused_from : (start : ℕ) (tree : Tree) (steps : List TreeStep) (index : ℕ) (refusal : StepRefusal) → do_steps_from start tree steps ≡ Err (index, refusal) → IsRefusedAfter index start tree steps
refused_from start tree [] index refusal e = absurd (cc e)
refused_from start tree (step ∷ steps) index refusal e =
    by (do_tree_step tree step).0 refl (refused_from (start + 1) (do_tree_step tree step).1 steps index refusal) e
  where
    rest : Result Tree (ℕ × StepRefusal)
    rest = do_steps_from (start + 1) (do_tree_step tree step).1 steps

    by : (found : Result Answer StepRefusal) → (do_tree_step tree step).0 ≡ found → (rest ≡ Err (index, refusal) → IsRefusedAfter index (start + 1) (do_tree_step tree step).1 steps) → next_step start found rest ≡ Err (index, refusal)
        → IsRefusedAfter index start tree (step ∷ steps)
    by (Ok answer) done later e =
        let found = later e in
        record {
          count = suc found.count;
          index_is = omega (arith, found.index_is);
          back = ap (undone tree step) found.back ∙ step_back tree step answer done;
        }
    by (Err other) done later e =
        let same : start ≡ index = ap index_in e in
        record { count = 0; index_is = omega (arith, same); back = refl }

pub refused_back : (tree : Tree) (steps : List TreeStep) (index : ℕ) (refusal : StepRefusal) → do_tree_steps tree steps ≡ Err (index, refusal)
    → undone_steps tree (take (index - 1) steps) (tree_along tree (take (index - 1) steps)) ≡ tree
refused_back tree steps index refusal e =
    let found = refused_from 1 tree steps index refusal e in
    let count : found.count ≡ index - 1 = omega (arith, found.index_is) in
    subst (λ n. undone_steps tree (take n steps) (tree_along tree (take n steps)) ≡ tree) count found.back
