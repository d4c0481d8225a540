-- A step leaves of a tree a tree.
use Rattle.std.proofs.Common.{◌≡◌, ◌≢◌, ◌⊎◌, inl, inr, ℕ, ◌+◌, ◌++◌, List, [], ◌∷◌, length, length-append, append_assoc, refl, sym, ap, subst, ◌∙◌, cond, arith}
use Rattle.std.specs.Prelude.{Bool, true, false, ◌||◌, Option, Some, None, Result, Ok, Err, is_some, nat_lt}
use Rattle.std.specs.List.{list_any}
use Rattle.std.specs.Ordering.{eq_by_cmp}
use Rattle.std.specs.FinMap as finite
use Rattle.std.specs.FinMap.{get, get-remove}
use Rattle.std.proofs.lemmas.List.{append-nil}
use Rattle.fx_plain.specs.Node.{Attributes, Contents, Node, Dir, File, empty_dir}
use Rattle.fx_plain.specs.Tree.{IsDirAt, IsTree, Tree, children, path_cmp}
use Rattle.fx_item.specs.Name.{name_cmp}
use Rattle.fx_plain.specs.Table.{do_step, is_reading, walk}
use Rattle.fx_plain.specs.declared.contents.TheConstants.{MAX_FILE}
use Rattle.fx_plain.specs.declared.step.Step.{Step}
use Rattle.fx_plain.specs.declared.step.Answer.{Answer}
use Rattle.fx_plain.specs.declared.step.Answer.TheVariants.{Done}
use Rattle.fx_plain.specs.declared.step.Refusal.{Refusal}
use Rattle.fx_plain.specs.declared.step.Refusal.TheVariants.{TooLong, Exists}
use Rattle.fx_plain.proofs.Children.{children_found}
use Rattle.fx_plain.proofs.Paths.{paths_total}
use Rattle.fx_plain.proofs.Trees.{Left, left, IsTree-do_step}
use Rattle.fx_contents.specs.Cuts.{IsTruncated, truncated}
use Rattle.fx_contents.specs.Marks.{IsMarked, marked_node}
use Rattle.fx_steps.specs.declared.step.TreeStep.{TreeStep}
use Rattle.fx_steps.specs.declared.step.TreeStep.TheVariants.{Basic, Truncate, Remove, Rename, SetAttr, DelAttr, GetAttr}
use Rattle.fx_steps.specs.declared.refusal.StepRefusal.{StepRefusal}
use Rattle.fx_steps.specs.Moved.{has_below, lies_below, moved, rest_below}
use Rattle.fx_steps.specs.Rows.{Stepped, attributes_of_node, del_attr_at, del_attr_step, do_tree_step, if_childless, is_look, move_apart, move_from, move_to, move_within, refuses_basic, remove_at, remove_step, rename_step, set_attr_at, set_attr_step, too_deep, truncate_at, with_basic, without_attr}
use Rattle.fx_steps.specs.Groups.{do_steps_from, do_tree_steps, next_step, tree_after_line}
use Rattle.fx_steps.specs.Changes.{IsRemoved, IsRenamed}
use Rattle.fx_steps.proofs.Below.{Path, below_or_not, lying, path_false, path_itself, path_true, rest_is, same_path}
use Rattle.fx_steps.proofs.Done.{del_attr_done, key_passes, remove_done, rename_done, set_attr_done, truncate_done}

-- ---- one node in the place of another

-- both are directories, or neither is
record AreOfOneKind (old new : Node) : Type 0 where
  down : (attributes : Attributes) → old ≡ Dir attributes → (others : Attributes) × (new ≡ Dir others)

replaced : (tree : Tree) (p : Path) (old new : Node) → IsTree tree → p ≢ [] → get tree p ≡ Some old → AreOfOneKind old new → IsTree (finite.insert tree p new)
replaced tree p old new k some there kinds = record {
  top = elim (left tree p new []) [ inl a ↦ absurd (some (sym a.0)) | inr a ↦ a.1 ∙ k.top ];
  above = λ q name node e. above q name node e (left tree p new (q ++ name ∷ [])) (left tree p new q);
}
  where
    at : (q : Path) → IsDirAt tree q → Left tree p new q → IsDirAt (finite.insert tree p new) q
    at q d (inl b) = let n = kinds.down d.0 (cc (sym there ∙ ap (get tree) (sym b.0) ∙ d.1)) in (n.0, b.1 ∙ ap Some n.1)
    at q d (inr b) = (d.0, b.1 ∙ d.1)

    above : (q : Path) (name : List ℕ) (node : Node) → get (finite.insert tree p new) (q ++ name ∷ []) ≡ Some node → Left tree p new (q ++ name ∷ []) → Left tree p new q → IsDirAt (finite.insert tree p new) q
    above q name node e (inl a) l = at q (k.above q name old (ap (get tree) a.0 ∙ there)) l
    above q name node e (inr a) l = at q (k.above q name node (sym a.1 ∙ e)) l

-- ---- a node that goes

abbrev Gone : Tree → Path → Path → Type 0
Gone tree p q = ((q ≡ p) × (get (finite.remove tree p) q ≡ None)) ⊎ ((q ≢ p) × (get (finite.remove tree p) q ≡ get tree q))

pub gone : (tree : Tree) (p q : Path) → Gone tree p q
gone tree p q = elim (same_path q p) [
  | inl e ↦ inl (e, get-remove paths_total tree p q ∙ ap (λ b. cond b None (get tree q)) (path_true q p e))
  | inr ne ↦ inr (ne, get-remove paths_total tree p q ∙ ap (λ b. cond b None (get tree q)) (path_false q p ne))
]

removed : (tree : Tree) (p : Path) → IsTree tree → p ≢ [] → ((name : List ℕ) → get tree (p ++ name ∷ []) ≡ None) → IsTree (finite.remove tree p)
removed tree p k some none = record {
  top = elim (gone tree p []) [ inl a ↦ absurd (some (sym a.0)) | inr a ↦ a.1 ∙ k.top ];
  above = λ q name node e. above q name node e (gone tree p (q ++ name ∷ [])) (gone tree p q);
}
  where
    above : (q : Path) (name : List ℕ) (node : Node) → get (finite.remove tree p) (q ++ name ∷ []) ≡ Some node → Gone tree p (q ++ name ∷ []) → Gone tree p q → IsDirAt (finite.remove tree p) q
    above q name node e (inl a) l = absurd (cc (sym e ∙ a.1))
    above q name node e (inr a) (inl b) = absurd (cc (sym e ∙ a.1 ∙ ap (λ z. get tree (z ++ name ∷ [])) b.0 ∙ none name))
    above q name node e (inr a) (inr b) = let d = k.above q name node (sym a.1 ∙ e) in (d.0, b.1 ∙ d.1)

no_names : (o : Option Node) → false ≡ is_some o → o ≡ None
no_names None e = refl
no_names (Some node) e = absurd (cc e)

no_children : (tree : Tree) (path : Path) (after : Tree) → IsTree tree → (r : IsRemoved tree path after) → (name : List ℕ) → get tree (path ++ name ∷ []) ≡ None
no_children tree path after k r name = by r.node refl
  where
    by : (node : Node) → r.node ≡ node → get tree (path ++ name ∷ []) ≡ None
    by (Dir attributes) is = no_names _ (ap (list_any (eq_by_cmp name_cmp name)) (sym (r.childless attributes is)) ∙ children_found tree path name)
    by (File contents attributes) is = none (get tree (path ++ name ∷ [])) refl
      where
        none : (o : Option Node) → get tree (path ++ name ∷ []) ≡ o → o ≡ None
        none None e = refl
        none (Some node) e = let d = k.above path name node e in absurd (cc (sym d.1 ∙ r.there ∙ ap Some is))

-- ---- a move

snoc_same : (q p : Path) (a b : List ℕ) → q ++ a ∷ [] ≡ p ++ b ∷ [] → (q ≡ p) × (a ≡ b)
snoc_same [] [] a b e = (refl, cc e)
snoc_same [] (y ∷ p) a b e = absurd (omega (arith, ap length e, length-append p (b ∷ [])))
snoc_same (x ∷ q) [] a b e = absurd (omega (arith, ap length e, length-append q (a ∷ [])))
snoc_same (x ∷ q) (y ∷ p) a b e = let later = snoc_same q p a b (cc e) in let first : x ≡ y = cc e in ((λ i. first i ∷ later.0 i), later.1)

abbrev Ends : Path → Type 0
Ends rest = (rest ≡ []) ⊎ ((above : Path) × (name : List ℕ) × (rest ≡ above ++ name ∷ []))

ends : (rest : Path) → Ends rest
ends [] = inl refl
ends (x ∷ []) = inr ([], x, refl)
ends (x ∷ y ∷ rest) = elim (ends (y ∷ rest)) [
  | inl e ↦ absurd (cc e)
  | inr e ↦ inr (x ∷ e.0, e.1, ap (λ z. x ∷ z) e.2)
]

module _ (tree after : Tree) (from to : Path) (k : IsTree tree) (r : IsRenamed tree from to after) where
  above_stays : get after r.above ≡ get tree r.above
  above_stays = r.is_moved.others r.above
      (λ rest e. omega (arith, ap length e, ap length r.to_is, length-append r.above (r.name ∷ []), length-append to rest))
      (λ rest e. r.not_into (rest ++ r.name ∷ []) (r.to_is ∙ ap (λ z. z ++ r.name ∷ []) e ∙ append_assoc from rest (r.name ∷ [])))

  root_stays : get after [] ≡ get tree []
  root_stays = r.is_moved.others []
      (λ rest e. cc (e ∙ ap (λ z. z ++ rest) r.in_volume.to_in))
      (λ rest e. cc (e ∙ ap (λ z. z ++ rest) r.in_volume.from_in))

  inside : (q : Path) (name : List ℕ) (node : Node) (s : Path) → get after (q ++ name ∷ []) ≡ Some node → q ++ name ∷ [] ≡ to ++ s → Ends s → IsDirAt after q
  inside q name node s e is (inl none) =
      let same = snoc_same q r.above name r.name (is ∙ ap (λ z. to ++ z) none ∙ append-nil to ∙ r.to_is) in
      (r.directory.0, ap (get after) same.0 ∙ above_stays ∙ r.directory.1)
  inside q name node s e is (inr more) =
      let parted : q ++ name ∷ [] ≡ (to ++ more.0) ++ more.1 ∷ [] = is ∙ ap (λ z. to ++ z) more.2 ∙ sym (append_assoc to more.0 (more.1 ∷ [])) in
      let same = snoc_same q (to ++ more.0) name more.1 parted in
      let old : get tree ((from ++ more.0) ++ more.1 ∷ []) ≡ Some node = ap (get tree) (append_assoc from more.0 (more.1 ∷ []) ∙ ap (λ z. from ++ z) (sym more.2)) ∙ sym (r.is_moved.inside s) ∙ ap (get after) (sym is) ∙ e in
      let d = k.above (from ++ more.0) more.1 node old in
      (d.0, ap (get after) same.0 ∙ r.is_moved.inside more.0 ∙ d.1)

  beside : (q : Path) (name : List ℕ) (node : Node) → get after (q ++ name ∷ []) ≡ Some node → ((s : Path) → q ++ name ∷ [] ≢ to ++ s) → ((s : Path) → q ++ name ∷ [] ≢ from ++ s) → IsDirAt after q
  beside q name node e not_to not_from =
      let d = k.above q name node (sym (r.is_moved.others (q ++ name ∷ []) not_to not_from) ∙ e) in (
        d.0,
        r.is_moved.others q
            (λ s f. not_to (s ++ name ∷ []) (ap (λ z. z ++ name ∷ []) f ∙ append_assoc to s (name ∷ [])))
            (λ s f. not_from (s ++ name ∷ []) (ap (λ z. z ++ name ∷ []) f ∙ append_assoc from s (name ∷ [])))
            ∙ d.1,
      )

  above_moved : (q : Path) (name : List ℕ) (node : Node) → get after (q ++ name ∷ []) ≡ Some node → IsDirAt after q
  above_moved q name node e = elim (below_or_not to (q ++ name ∷ [])) [
    | inl a ↦ inside q name node a.0 e a.1 (ends a.0)
    | inr not_to ↦ elim (below_or_not from (q ++ name ∷ [])) [
      | inl b ↦ absurd (cc (sym e ∙ ap (get after) b.1 ∙ r.is_moved.gone b.0))
      | inr not_from ↦ beside q name node e not_to not_from
    ]
  ]

  pub renamed_tree : IsTree after
  renamed_tree = record { top = root_stays ∙ k.top; above = above_moved }

-- ---- every step

truncated_kind : (size : ℕ) (contents : Contents) (attributes : Attributes) → AreOfOneKind (File contents attributes) (File (truncated size contents) attributes)
truncated_kind size contents attributes = record { down = λ a e. absurd (cc e) }

marked_kind : (name : List ℕ) (text : Option (List ℕ)) (node : Node) → AreOfOneKind node (marked_node name text node)
marked_kind name text (Dir attributes) = record { down = λ a e. (_, refl) }
marked_kind name text (File contents attributes) = record { down = λ a e. absurd (cc e) }

pub truncated_tree : (tree : Tree) (path : Path) (size : ℕ) (after : Tree) → IsTree tree → IsTruncated tree path size after → IsTree after
truncated_tree tree path size after k r =
    subst IsTree (sym r.inserted) (replaced tree path (File r.contents r.attributes) (File (truncated size r.contents) r.attributes) k (λ e. cc (sym k.top ∙ ap (get tree) (sym e) ∙ r.file)) r.file (truncated_kind size r.contents r.attributes))

pub marked_tree : (tree : Tree) (path : Path) (name : List ℕ) (text : Option (List ℕ)) (after : Tree) → IsTree tree → IsMarked tree path name text after → IsTree after
marked_tree tree path name text after k r = subst IsTree (sym r.inserted) (replaced tree path r.node (marked_node name text r.node) k r.below_root r.there (marked_kind name text r.node))

pub removed_tree : (tree : Tree) (path : Path) (after : Tree) → IsTree tree → IsRemoved tree path after → IsTree after
removed_tree tree path after k r = subst IsTree (sym r.removed) (removed tree path k r.below_root (no_children tree path after k r))

-- ---- a step that changes the tree is done

abbrev pub Rests : Tree → Stepped → Type 0
Rests tree s = (s.1 ≡ tree) ⊎ (s.0 ≡ Ok Done)

truncate_rests : (tree : Tree) (path : Path) (size : ℕ) (way : Option Refusal) (there : Option Node) → Rests tree (truncate_at tree path size way there)
truncate_rests tree path size (Some refusal) there = inl refl
truncate_rests tree path size None None = inl refl
truncate_rests tree path size None (Some (Dir attributes)) = inl refl
truncate_rests tree path size None (Some (File contents attributes)) = by (nat_lt MAX_FILE size)
  where
    by : (b : Bool) → Rests tree (cond b (refuses_basic tree TooLong) (Ok Done, finite.insert tree path (File (truncated size contents) attributes)))
    by true = inl refl
    by false = inr refl

remove_rests : (tree : Tree) (path : Path) (way : Option Refusal) (there : Option Node) → Rests tree (remove_at tree path way there)
remove_rests tree path (Some refusal) there = inl refl
remove_rests tree path None None = inl refl
remove_rests tree path None (Some (Dir attributes)) = by (children tree path)
  where
    by : (names : List (List ℕ)) → Rests tree (if_childless tree path names)
    by [] = inr refl
    by (name ∷ names) = inl refl
remove_rests tree path None (Some (File contents attributes)) = inr refl

move_rests : (tree : Tree) (from to : Path) (way : Option Refusal) → Rests tree (move_to tree from to way)
move_rests tree from to (Some refusal) = inl refl
move_rests tree from to None = by (has_below tree to) (too_deep tree from to)
  where
    by : (h d : Bool) → Rests tree (cond h (refuses_basic tree Exists) (cond d (refuses_basic tree TooLong) (Ok Done, moved tree from to)))
    by true d = inl refl
    by false true = inl refl
    by false false = inr refl

within_rests : (tree : Tree) (from to : Path) (into same : Bool) → Rests tree (move_within tree from to into same)
within_rests tree from to true same = inl refl
within_rests tree from to false false = inl refl
within_rests tree from to false true = move_rests tree from to (walk tree to)

rename_rests : (tree : Tree) (from to : Path) (same : Bool) (way : Option Refusal) (there : Option Node) → Rests tree (move_from tree from to same way there)
rename_rests tree from to same (Some refusal) there = inl refl
rename_rests tree from to same None None = inl refl
rename_rests tree from to same None (Some node) = within_rests tree from to (lies_below from to) same

set_rests : (tree : Tree) (path : Path) (name value : List ℕ) (way : Option Refusal) (there : Option Node) → Rests tree (set_attr_at tree path name value way there)
set_rests tree path name value (Some refusal) there = inl refl
set_rests tree path name value None None = inl refl
set_rests tree path name value None (Some node) = inr refl

del_rests : (tree : Tree) (path : Path) (name : List ℕ) (way : Option Refusal) (there : Option Node) → Rests tree (del_attr_at tree path name way there)
del_rests tree path name (Some refusal) there = inl refl
del_rests tree path name None None = inl refl
del_rests tree path name None (Some node) = by (get (attributes_of_node node) name)
  where
    by : (o : Option (List ℕ)) → Rests tree (without_attr tree path name node o)
    by None = inl refl
    by (Some value) = inr refl

-- what the basic steps are known for
abbrev pub BasicRests : Type 0
BasicRests = (tree : Tree) (step : Step) (refusal : Refusal) → (do_step tree step).0 ≡ Err refusal → (do_step tree step).1 ≡ tree

basic_refused : BasicRests → (tree : Tree) (step : Step) (refusal : StepRefusal) (found : Result Answer Refusal) → (do_step tree step).0 ≡ found → with_basic found ≡ Err refusal → (do_step tree step).1 ≡ tree
basic_refused rests tree step refusal (Ok answer) is e = absurd (cc e)
basic_refused rests tree step refusal (Err why) is e = rests tree step why is

rests_refused : (tree : Tree) (s : Stepped) (refusal : StepRefusal) → Rests tree s → s.0 ≡ Err refusal → s.1 ≡ tree
rests_refused tree s refusal (inl same) e = same
rests_refused tree s refusal (inr done) e = absurd (cc (sym e ∙ done))

pub step_rests : (tree : Tree) (step : TreeStep) → ((basic : Step) → step ≢ Basic basic) → Rests tree (do_tree_step tree step)
step_rests tree (Basic step) other = absurd (other step refl)
step_rests tree (Truncate path size) other = truncate_rests tree path size (walk tree path) (get tree path)
step_rests tree (Remove []) other = inl refl
step_rests tree (Remove (name ∷ names)) other = remove_rests tree (name ∷ names) (walk tree (name ∷ names)) (get tree (name ∷ names))
step_rests tree (Rename [] to) other = inl refl
step_rests tree (Rename (volume ∷ from) []) other = inl refl
step_rests tree (Rename (volume ∷ from) (first ∷ to)) other = rename_rests tree (volume ∷ from) (first ∷ to) (eq_by_cmp name_cmp volume first) (walk tree (volume ∷ from)) (get tree (volume ∷ from))
step_rests tree (SetAttr [] name value) other = inl refl
step_rests tree (SetAttr (first ∷ names) name value) other = set_rests tree (first ∷ names) name value (walk tree (first ∷ names)) (get tree (first ∷ names))
step_rests tree (DelAttr [] name) other = inl refl
step_rests tree (DelAttr (first ∷ names) name) other = del_rests tree (first ∷ names) name (walk tree (first ∷ names)) (get tree (first ∷ names))
step_rests tree (GetAttr path name) other = inl refl

pub step_refused : BasicRests → (tree : Tree) (step : TreeStep) (refusal : StepRefusal) → (do_tree_step tree step).0 ≡ Err refusal → (do_tree_step tree step).1 ≡ tree
step_refused rests tree (Basic step) refusal e = basic_refused rests tree step refusal (do_step tree step).0 refl e
step_refused rests tree (Truncate path size) refusal e = rests_refused tree _ refusal (step_rests tree (Truncate path size) (λ b f. cc f)) e
step_refused rests tree (Remove path) refusal e = rests_refused tree _ refusal (step_rests tree (Remove path) (λ b f. cc f)) e
step_refused rests tree (Rename from to) refusal e = rests_refused tree _ refusal (step_rests tree (Rename from to) (λ b f. cc f)) e
step_refused rests tree (SetAttr path name value) refusal e = rests_refused tree _ refusal (step_rests tree (SetAttr path name value) (λ b f. cc f)) e
step_refused rests tree (DelAttr path name) refusal e = rests_refused tree _ refusal (step_rests tree (DelAttr path name) (λ b f. cc f)) e
step_refused rests tree (GetAttr path name) refusal e = refl

-- a step that rests or is done leaves a tree
by_rest : (tree : Tree) (s : Stepped) → IsTree tree → Rests tree s → (s.0 ≡ Ok Done → IsTree s.1) → IsTree s.1
by_rest tree s k (inl same) h = subst IsTree (sym same) k
by_rest tree s k (inr done) h = h done

pub step_kept : (tree : Tree) (step : TreeStep) → IsTree tree → IsTree (do_tree_step tree step).1
step_kept tree (Basic step) k = IsTree-do_step tree step k
step_kept tree (Truncate path size) k = by_rest tree _ k (step_rests tree (Truncate path size) (λ b f. cc f)) (λ done. truncated_tree tree path size _ k (truncate_done tree path size Done done))
step_kept tree (Remove path) k = by_rest tree _ k (step_rests tree (Remove path) (λ b f. cc f)) (λ done. removed_tree tree path _ k (remove_done tree path Done done))
step_kept tree (Rename from to) k = by_rest tree _ k (step_rests tree (Rename from to) (λ b f. cc f)) (λ done. renamed_tree tree _ from to k (rename_done tree from to Done done))
step_kept tree (SetAttr path name value) k = by_rest tree _ k (step_rests tree (SetAttr path name value) (λ b f. cc f)) (λ done. marked_tree tree path name (Some value) _ k (set_attr_done tree path name value Done done))
step_kept tree (DelAttr path name) k = by_rest tree _ k (step_rests tree (DelAttr path name) (λ b f. cc f)) (λ done. marked_tree tree path name None _ k (del_attr_done tree path name Done done))
step_kept tree (GetAttr path name) k = k

pub step_looks : ((tree : Tree) (step : Step) → is_reading step ≡ true → (do_step tree step).1 ≡ tree) → (tree : Tree) (step : TreeStep) → is_look step ≡ true → (do_tree_step tree step).1 ≡ tree
step_looks reads tree (Basic step) e = reads tree step e
step_looks reads tree (Truncate path size) e = absurd (cc e)
step_looks reads tree (Remove path) e = absurd (cc e)
step_looks reads tree (Rename from to) e = absurd (cc e)
step_looks reads tree (SetAttr path name value) e = absurd (cc e)
step_looks reads tree (DelAttr path name) e = absurd (cc e)
step_looks reads tree (GetAttr path name) e = refl

-- ---- the steps of a line

next_kept : (tree : Tree) (index : ℕ) (found : Result Answer StepRefusal) (rest : Result Tree (ℕ × StepRefusal)) → IsTree tree → IsTree (tree_after_line tree rest) → IsTree (tree_after_line tree (next_step index found rest))
next_kept tree index (Ok answer) rest k h = h
next_kept tree index (Err refusal) rest k h = k

other_start : (tree first : Tree) (found : Result Tree (ℕ × StepRefusal)) → IsTree first → IsTree (tree_after_line tree found) → IsTree (tree_after_line first found)
other_start tree first (Ok after) k h = h
other_start tree first (Err refused) k h = k

steps_kept_from : (index : ℕ) (tree : Tree) (steps : List TreeStep) → IsTree tree → IsTree (tree_after_line tree (do_steps_from index tree steps))
steps_kept_from index tree [] k = k
steps_kept_from index tree (step ∷ steps) k =
    let next = (do_tree_step tree step).1 in
    next_kept tree index (do_tree_step tree step).0 (do_steps_from (index + 1) next steps) k
    (other_start next tree (do_steps_from (index + 1) next steps) k (steps_kept_from (index + 1) next steps (step_kept tree step k)))

pub steps_kept : (tree : Tree) (steps : List TreeStep) → IsTree tree → IsTree (tree_after_line tree (do_tree_steps tree steps))
steps_kept tree steps k = steps_kept_from 1 tree steps k

-- ---- in a tree something lies below a path only where something lies at it

there_above : (tree : Tree) → IsTree tree → (p rest : Path) (node : Node) → get tree (p ++ rest) ≡ Some node → is_some (get tree p) ≡ true
there_above tree k p [] node e = ap is_some (ap (get tree) (sym (append-nil p)) ∙ e)
there_above tree k p (x ∷ rest) node e =
    let below = there_above tree k (p ++ x ∷ []) rest node (ap (get tree) (append_assoc p (x ∷ []) rest) ∙ e) in
    up (get tree (p ++ x ∷ [])) refl below
  where
    up : (o : Option Node) → get tree (p ++ x ∷ []) ≡ o → is_some o ≡ true → is_some (get tree p) ≡ true
    up None is f = absurd (cc f)
    up (Some there) is f = ap is_some (k.above p x there is).1

or_right : (b x : Bool) → x ≡ true → (b || x) ≡ true
or_right true x e = refl
or_right false x e = e

none_pass : (f : Path → Bool) (ks : List Path) → ((k : Path) → list_any (eq_by_cmp path_cmp k) ks ≡ true → f k ≡ false) → list_any f ks ≡ false
none_pass f [] h = refl
none_pass f (k ∷ ks) h =
    ap (λ b. b || list_any f ks) (h k (ap (λ b. b || list_any (eq_by_cmp path_cmp k) ks) (path_itself k)))
    ∙ none_pass f ks (λ q e. h q (or_right (eq_by_cmp path_cmp q k) (list_any (eq_by_cmp path_cmp q) ks) e))

pub below_is_there : (tree : Tree) (path : Path) → IsTree tree → has_below tree path ≡ is_some (get tree path)
below_is_there tree path k = by (get tree path) refl
  where
    fails : (o : Option Node) → get tree path ≡ None → (q : Path) → get tree q ≡ o → is_some o ≡ true → lies_below path q ≡ false
    fails None none q is there = absurd (cc there)
    fails (Some node) none q is there = rest (rest_below path q) refl
      where
        rest : (r : Option Path) → rest_below path q ≡ r → is_some r ≡ false
        rest None e = refl
        rest (Some r) e = absurd (cc (sym (ap is_some none) ∙ there_above tree k path r node (ap (get tree) (sym (rest_is path q r e)) ∙ is)))

    by : (o : Option Node) → get tree path ≡ o → has_below tree path ≡ is_some o
    by None none = none_pass (lies_below path) (finite.keys tree) (λ q e. fails (get tree q) none q refl (finite.contains_key-keys tree q ∙ e))
    by (Some node) there = key_passes tree (lies_below path) path (ap is_some there) (lying path path [] (sym (append-nil path)))
