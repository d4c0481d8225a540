-- What a tree gains by steps: at most what these need.
use Rattle.std.proofs.Common.{◌≡◌, ℕ, ◌+◌, ◌*◌, ◌≤◌, Bool, true, false, cond, List, [], ◌∷◌, refl, sym, ap, subst, ◌∙◌, arith}
use Rattle.std.specs.Prelude.{Result, Ok, Err, Some, None, ◌-◌, ◌||◌, ◌&&◌, nat_lt}
use Rattle.std.specs.List.{list_any}
use Rattle.std.specs.Cmp.{nat_cmp_total}
use Rattle.std.specs.Cmp.Lexicographic.{nat_list_cmp_total}
use Rattle.std.specs.Ordering.{eq_by_cmp, nat_cmp}
use Rattle.std.specs.FinMap as finite
use Rattle.std.specs.FinSet as set
use Rattle.fx_base.specs.declared.block.TheConstants.{BLOCK_BYTES}
use Rattle.fx_item.specs.declared.Sizes.{Sizes}
use Rattle.fx_item.specs.declared.space.Need.{Need}
use Rattle.fx_plain.specs.Node.{Attributes, Blocks, Contents, Node, Dir, File}
use Rattle.fx_plain.specs.Growth.{Grows}
use Rattle.fx_plain.specs.Table.{do_step}
use Rattle.fx_plain.specs.Tree.{IsTree, Tree, attribute_count, held_count, sizes_of}
use Rattle.fx_plain.specs.declared.step.Step.{Step}
use Rattle.fx_plain.specs.declared.step.Answer.{Answer}
use Rattle.fx_contents.specs.Cuts.{truncated}
use Rattle.fx_contents.specs.Marks.{marked_node}
use Rattle.fx_steps.specs.declared.step.TreeStep.{TreeStep}
use Rattle.fx_steps.specs.declared.step.TreeStep.TheVariants.{Basic, Truncate, Remove, Rename, SetAttr, DelAttr, GetAttr}
use Rattle.fx_steps.specs.declared.refusal.StepRefusal.{StepRefusal}
use Rattle.fx_steps.specs.Changes.{IsSizedAnew, IsSizedLess}
use Rattle.fx_steps.specs.Groups.{tree_along}
use Rattle.fx_steps.specs.Needs.{both_needs, line_need, nothing_needed, step_need}
use Rattle.fx_steps.specs.Rows.{do_tree_step}
use Rattle.fx_steps.proofs.Done.{del_attr_done, remove_done, rename_done, set_attr_done, truncate_done}
use Rattle.fx_steps.proofs.Kept.{BasicRests, step_kept, step_refused}
use Rattle.fx_steps.proofs.Sized.{marked_sizes, removed_sizes, renamed_sizes, truncated_sizes}
use Rattle.fx_needs.specs.Gained.{GainsAtMost}

-- ---- what is left of a set

abbrev with_blocks : Blocks → List ℕ → Blocks
with_blocks held [] = held
with_blocks held (n ∷ ns) = set.insert (with_blocks held ns) n

or_parted : (a b c : Bool) → (a || (b || c)) ≡ ((a || b) || c)
or_parted true b c = refl
or_parted false b c = refl

absorbed : (a b : Bool) → (a || (a && b)) ≡ a
absorbed true b = refl
absorbed false b = refl

has_either : (held : Blocks) (q : ℕ) (ns : List ℕ) → set.contains (with_blocks held ns) q ≡ (list_any (eq_by_cmp nat_cmp q) ns || set.contains held q)
has_either held q [] = refl
has_either held q (n ∷ ns) =
    set.contains-insert nat_cmp_total (with_blocks held ns) n q
    ∙ ap (λ b. eq_by_cmp nat_cmp q n || b) (has_either held q ns)
    ∙ or_parted (eq_by_cmp nat_cmp q n) _ _

no_fewer : (held : Blocks) (ns : List ℕ) → set.len held ≤ set.len (with_blocks held ns)
no_fewer held [] = omega arith
no_fewer held (n ∷ ns) = by (set.contains (with_blocks held ns) n) (set.len-insert nat_cmp_total (with_blocks held ns) n) (no_fewer held ns)
  where
    by : (b : Bool) → set.len (set.insert (with_blocks held ns) n) ≡ cond b (set.len (with_blocks held ns)) (set.len (with_blocks held ns) + 1) → set.len held ≤ set.len (with_blocks held ns) → set.len held ≤ set.len (set.insert (with_blocks held ns) n)
    by true e later = omega (arith, e, later)
    by false e later = omega (arith, e, later)

few_left : (held : Blocks) (p : ℕ → Bool) → set.len (set.retain held p) ≤ set.len held
few_left held p = omega (arith, ap set.len whole, no_fewer (set.retain held p) (set.items held))
  where
    whole : with_blocks (set.retain held p) (set.items held) ≡ held
    whole = set.same_set nat_cmp_total set.nat_cmp-IsAntisymmetric _ _ (λ q.
        has_either (set.retain held p) q (set.items held)
        ∙ ap (λ b. b || set.contains (set.retain held p) q) (sym (set.contains-items held q))
        ∙ ap (λ b. set.contains held q || b) (set.contains-retain held p q (λ x e. ap p (sym (set.nat_cmp-IsAntisymmetric q x e))))
        ∙ absorbed (set.contains held q) (p q))

-- ---- the attributes of a node

one_more : (name value : List ℕ) (attributes : Attributes) → finite.len (finite.insert attributes name value) ≤ finite.len attributes + 1
one_more name value attributes = by (finite.contains_key attributes name) (finite.len-insert nat_list_cmp_total attributes name value)
  where
    by : (b : Bool) → finite.len (finite.insert attributes name value) ≡ cond b (finite.len attributes) (finite.len attributes + 1) → finite.len (finite.insert attributes name value) ≤ finite.len attributes + 1
    by true e = omega (arith, e)
    by false e = omega (arith, e)

none_more : (name : List ℕ) (attributes : Attributes) → finite.len (finite.remove attributes name) ≤ finite.len attributes
none_more name attributes = by (finite.contains_key attributes name) (finite.len-remove nat_list_cmp_total attributes name)
  where
    by : (b : Bool) → finite.len (finite.remove attributes name) ≡ cond b (finite.len attributes - 1) (finite.len attributes) → finite.len (finite.remove attributes name) ≤ finite.len attributes
    by true e = omega (arith, e)
    by false e = omega (arith, e)

-- ---- a node in the place of another

record IsNoMore (more : ℕ) (before after : Node) : Type 0 where
  attributes : attribute_count after ≤ attribute_count before + more
  blocks : held_count after ≤ held_count before

set_more : (name value : List ℕ) (node : Node) → IsNoMore 1 node (marked_node name (Some value) node)
set_more name value (Dir attributes) = record { attributes = one_more name value attributes; blocks = omega arith }
set_more name value (File contents attributes) = record { attributes = one_more name value attributes; blocks = omega arith }

unset_more : (name : List ℕ) (node : Node) → IsNoMore 0 node (marked_node name None node)
unset_more name (Dir attributes) = record { attributes = omega (arith, none_more name attributes); blocks = omega arith }
unset_more name (File contents attributes) = record { attributes = omega (arith, none_more name attributes); blocks = omega arith }

cut_more : (size : ℕ) (contents : Contents) (attributes : Attributes) → IsNoMore 0 (File contents attributes) (File (truncated size contents) attributes)
cut_more size contents attributes = record { attributes = omega arith; blocks = few_left contents.held (λ n. nat_lt (n * BLOCK_BYTES) size) }

anew : (old new : Sizes) (before after : Node) (need : Need) → IsSizedAnew old new before after → IsNoMore need.attributes before after → GainsAtMost old need new
anew old new before after need sized more = record {
  nodes = omega (arith, sized.nodes);
  attributes = omega (arith, sized.attributes, more.attributes);
  blocks = omega (arith, sized.blocks, more.blocks);
}

less : (old new : Sizes) (node : Node) (need : Need) → IsSizedLess old new node → GainsAtMost old need new
less old new node need sized = record { nodes = omega (arith, sized.nodes); attributes = omega (arith, sized.attributes); blocks = omega (arith, sized.blocks) }

stays : (sizes : Sizes) (need : Need) → GainsAtMost sizes need sizes
stays sizes need = record { nodes = omega arith; attributes = omega arith; blocks = omega arith }

grown_by : (step : Step) (old new : Sizes) (tree : Tree) → Grows step old new → GainsAtMost old (step_need tree (Basic step)) new
grown_by step old new tree g = record { nodes = g.nodes; attributes = omega (arith, g.attributes); blocks = g.blocks }

both : (a b c : Sizes) (m n : Need) → GainsAtMost a m b → GainsAtMost b n c → GainsAtMost a (both_needs m n) c
both a b c m n x y = record { nodes = omega (arith, x.nodes, y.nodes); attributes = omega (arith, x.attributes, y.attributes); blocks = omega (arith, x.blocks, y.blocks) }

-- ---- steps and lines

module _ (rests : BasicRests) (grows : (tree : Tree) (step : Step) → Grows step (sizes_of tree) (sizes_of (do_step tree step).1)) where
  abbrev Gains : Tree → TreeStep → Type 0
  Gains tree step = GainsAtMost (sizes_of tree) (step_need tree step) (sizes_of (do_tree_step tree step).1)

  by_answer : (tree : Tree) (step : TreeStep) → ((answer : Answer) → (do_tree_step tree step).0 ≡ Ok answer → Gains tree step) → (found : Result Answer StepRefusal) → (do_tree_step tree step).0 ≡ found → Gains tree step
  by_answer tree step done (Ok answer) e = done answer e
  by_answer tree step done (Err refusal) e = subst (λ t. GainsAtMost (sizes_of tree) (step_need tree step) (sizes_of t)) (sym (step_refused rests tree step refusal e)) (stays (sizes_of tree) (step_need tree step))

  done_gains : (tree : Tree) (step : TreeStep) → IsTree tree → (answer : Answer) → (do_tree_step tree step).0 ≡ Ok answer → Gains tree step
  done_gains tree (Basic step) k answer e = grown_by step _ _ tree (grows tree step)
  done_gains tree (Truncate path size) k answer e =
      let r = truncate_done tree path size answer e in
      anew _ _ (File r.contents r.attributes) (File (truncated size r.contents) r.attributes) (step_need tree (Truncate path size)) (truncated_sizes tree path size _ r) (cut_more size r.contents r.attributes)
  done_gains tree (Remove path) k answer e =
      let r = remove_done tree path answer e in
      less _ _ r.node (step_need tree (Remove path)) (removed_sizes tree k path _ r)
  done_gains tree (Rename from to) k answer e =
      subst (λ s. GainsAtMost (sizes_of tree) (step_need tree (Rename from to)) s) (sym (renamed_sizes tree from to _ (rename_done tree from to answer e))) (stays (sizes_of tree) (step_need tree (Rename from to)))
  done_gains tree (SetAttr path name value) k answer e =
      let r = set_attr_done tree path name value answer e in
      anew _ _ r.node (marked_node name (Some value) r.node) (step_need tree (SetAttr path name value)) (marked_sizes tree path name (Some value) _ r) (set_more name value r.node)
  done_gains tree (DelAttr path name) k answer e =
      let r = del_attr_done tree path name answer e in
      anew _ _ r.node (marked_node name None r.node) (step_need tree (DelAttr path name)) (marked_sizes tree path name None _ r) (unset_more name r.node)
  done_gains tree (GetAttr path name) k answer e = stays (sizes_of tree) (step_need tree (GetAttr path name))

  pub step_gains : (tree : Tree) (step : TreeStep) → IsTree tree → Gains tree step
  step_gains tree step k = by_answer tree step (done_gains tree step k) (do_tree_step tree step).0 refl

  pub line_gains : (tree : Tree) (steps : List TreeStep) → IsTree tree → GainsAtMost (sizes_of tree) (line_need tree steps) (sizes_of (tree_along tree steps))
  line_gains tree [] k = stays (sizes_of tree) nothing_needed
  line_gains tree (step ∷ steps) k =
      both (sizes_of tree) (sizes_of (do_tree_step tree step).1) _ (step_need tree step) (line_need (do_tree_step tree step).1 steps)
      (step_gains tree step k) (line_gains (do_tree_step tree step).1 steps (step_kept tree step k))
