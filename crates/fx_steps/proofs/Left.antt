-- What a step leaves alone.
use Rattle.std.proofs.Common.{◌≡◌, ◌≢◌, ◌⊎◌, inl, inr, ℕ, ◌+◌, ◌++◌, List, [], ◌∷◌, length, refl, sym, ap, subst, ◌∙◌, cond}
use Rattle.std.specs.Prelude.{Bool, true, false, Option, Some, None, Result, Ok, Err, nat_lt}
use Rattle.std.specs.List.{AllByRecursion}
use Rattle.std.specs.FinMap as finite
use Rattle.std.specs.FinMap.{get}
use Rattle.std.proofs.lemmas.List.{append-nil}
use Rattle.fx_plain.specs.Node.{Attributes, Contents, Node, Dir, File, empty_dir, empty_file, written}
use Rattle.fx_plain.specs.Tree.{Tree}
use Rattle.fx_plain.specs.Table.{create, do_step, mkdir, place, walk, write_at}
use Rattle.fx_plain.specs.declared.contents.TheConstants.{MAX_FILE}
use Rattle.fx_plain.specs.declared.step.Step.{Step}
use Rattle.fx_plain.specs.declared.step.Step.TheVariants as basic
use Rattle.fx_plain.specs.declared.step.Answer.{Answer}
use Rattle.fx_plain.specs.declared.step.Answer.TheVariants.{Done}
use Rattle.fx_plain.specs.declared.step.Refusal.{Refusal}
use Rattle.fx_plain.specs.declared.step.Refusal.TheVariants.{TooLong}
use Rattle.fx_plain.proofs.Trees.{Left, left}
use Rattle.fx_contents.specs.Cuts.{truncated}
use Rattle.fx_contents.specs.Marks.{marked_node}
use Rattle.fx_steps.specs.declared.step.TreeStep.{TreeStep}
use Rattle.fx_steps.specs.declared.step.TreeStep.TheVariants.{Basic, Truncate, Remove, Rename, SetAttr, DelAttr, GetAttr}
use Rattle.fx_steps.specs.Moved.{lies_below}
use Rattle.fx_steps.specs.Rows.{Stepped, do_tree_step}
use Rattle.fx_steps.specs.Groups.{tree_along}
use Rattle.fx_steps.specs.Changes.{LiesApart, basic_path, named_paths}
use Rattle.fx_steps.proofs.Below.{Path, not_lying}
use Rattle.fx_steps.proofs.Done.{del_attr_done, remove_done, rename_done, set_attr_done, truncate_done}
use Rattle.fx_steps.proofs.Kept.{Rests, gone, step_rests}

not_at : (p q : Path) → lies_below p q ≡ false → q ≢ p
not_at p q e f = not_lying p q e [] (f ∙ sym (append-nil p))

-- an insertion leaves all other paths
insertion_leaves : (tree : Tree) (p q : Path) (node : Node) → q ≢ p → get (finite.insert tree p node) q ≡ get tree q
insertion_leaves tree p q node ne = elim (left tree p node q) [ inl a ↦ absurd (ne a.0) | inr a ↦ a.1 ]

removal_leaves : (tree : Tree) (p q : Path) → q ≢ p → get (finite.remove tree p) q ≡ get tree q
removal_leaves tree p q ne = elim (gone tree p q) [ inl a ↦ absurd (ne a.0) | inr a ↦ a.1 ]

-- ---- the basic steps

module _ (tree : Tree) (q : Path) where
  abbrev Leaves : Tree → Type 0
  Leaves after = get after q ≡ get tree q

  placing : (p : Path) (node : Node) → q ≢ p → (way : Option Refusal) (there : Option Node) → Leaves (place tree p node way there).1
  placing p node ne (Some refusal) there = refl
  placing p node ne None (Some other) = refl
  placing p node ne None None = insertion_leaves tree p q node ne

  making : (p : Path) → q ≢ p → Leaves (mkdir tree p).1
  making [] ne = refl
  making (n ∷ ns) ne = placing (n ∷ ns) empty_dir ne (walk tree (n ∷ ns)) (get tree (n ∷ ns))

  creating : (p : Path) → q ≢ p → Leaves (create tree p).1
  creating [] ne = refl
  creating (n ∷ []) ne = refl
  creating (n ∷ m ∷ ns) ne = placing (n ∷ m ∷ ns) empty_file ne (walk tree (n ∷ m ∷ ns)) (get tree (n ∷ m ∷ ns))

  writing : (p : Path) (at : ℕ) (text : List ℕ) → q ≢ p → (way : Option Refusal) (there : Option Node) → Leaves (write_at tree p at text way there).1
  writing p at text ne (Some refusal) there = refl
  writing p at text ne None None = refl
  writing p at text ne None (Some (Dir attributes)) = refl
  writing p at text ne None (Some (File contents attributes)) = by (nat_lt MAX_FILE (at + length text))
    where
      by : (b : Bool) → Leaves (cond b (let a : Result Answer Refusal × Tree = (Err TooLong, tree) in a) (Ok Done, finite.insert tree p (File (written at text contents) attributes))).1
      by true = refl
      by false = insertion_leaves tree p q (File (written at text contents) attributes) ne

  basic_leaves : (step : Step) → q ≢ basic_path step → Leaves (do_step tree step).1
  basic_leaves (basic.Mkdir path) ne = making path ne
  basic_leaves (basic.Create path) ne = creating path ne
  basic_leaves (basic.Write path at text) ne = writing path at text ne (walk tree path) (get tree path)
  basic_leaves (basic.Read path at count) ne = refl
  basic_leaves (basic.List path) ne = refl
  basic_leaves (basic.Stat path) ne = refl

  -- ---- the other steps

  by_rest : (s : Stepped) → Rests tree s → (s.0 ≡ Ok Done → Leaves s.1) → Leaves s.1
  by_rest s (inl same) h = ap (λ t. get t q) same
  by_rest s (inr done) h = h done

  pub step_leaves : (step : TreeStep) → LiesApart (named_paths step) q → Leaves (do_tree_step tree step).1
  step_leaves (Basic step) apart = basic_leaves step (not_at (basic_path step) q apart.0)
  step_leaves (Truncate path size) apart = by_rest _ (step_rests tree (Truncate path size) (λ b f. cc f)) (λ done.
      let r = truncate_done tree path size Done done in
      ap (λ t. get t q) r.inserted ∙ insertion_leaves tree path q (File (truncated size r.contents) r.attributes) (not_at path q apart.0))
  step_leaves (Remove path) apart = by_rest _ (step_rests tree (Remove path) (λ b f. cc f)) (λ done.
      ap (λ t. get t q) (remove_done tree path Done done).removed ∙ removal_leaves tree path q (not_at path q apart.0))
  step_leaves (Rename from to) apart = by_rest _ (step_rests tree (Rename from to) (λ b f. cc f)) (λ done.
      (rename_done tree from to Done done).is_moved.others q (not_lying to q apart.1.0) (not_lying from q apart.0))
  step_leaves (SetAttr path name value) apart = by_rest _ (step_rests tree (SetAttr path name value) (λ b f. cc f)) (λ done.
      let r = set_attr_done tree path name value Done done in
      ap (λ t. get t q) r.inserted ∙ insertion_leaves tree path q (marked_node name (Some value) r.node) (not_at path q apart.0))
  step_leaves (DelAttr path name) apart = by_rest _ (step_rests tree (DelAttr path name) (λ b f. cc f)) (λ done.
      let r = del_attr_done tree path name Done done in
      ap (λ t. get t q) r.inserted ∙ insertion_leaves tree path q (marked_node name None r.node) (not_at path q apart.0))
  step_leaves (GetAttr path name) apart = refl

pub all_leave : (tree : Tree) (step : TreeStep) (q : Path) → LiesApart (named_paths step) q → get (do_tree_step tree step).1 q ≡ get tree q
all_leave tree step q apart = step_leaves tree q step apart

pub line_leaves : (tree : Tree) (steps : List TreeStep) (q : Path) → AllByRecursion (λ step. LiesApart (named_paths step) q) steps → get (tree_along tree steps) q ≡ get tree q
line_leaves tree [] q apart = refl
line_leaves tree (step ∷ steps) q apart = line_leaves (do_tree_step tree step).1 steps q apart.1 ∙ all_leave tree step q apart.0
