-- The items of a write, and those of a truncation, do the step.
use Rattle.std.proofs.Common.{◌≡◌, inl, inr, ℕ, ◌+◌, ◌≤◌, List, [], ◌∷◌, ◌++◌, length, sym, ap, ◌∙◌, cond}
use Rattle.std.specs.Prelude.{Some, None, Result, Ok, Err}
use Rattle.std.specs.FinMap.{get, insert}
use Rattle.std.proofs.lemmas.Bool.{le-ltb}
use Rattle.fx_item.specs.Item.{FileValue, ObjectKey}
use Rattle.fx_item.specs.Overlay.{Said}
use Rattle.fx_plain.specs.Node.{Attributes, Contents, File, written}
use Rattle.fx_plain.specs.Table.{do_step, walk, write_at}
use Rattle.fx_plain.specs.Tree.{Tree}
use Rattle.fx_plain.specs.declared.contents.TheConstants.{MAX_FILE}
use Rattle.fx_plain.specs.declared.kind.Kind.{Kind}
use Rattle.fx_plain.specs.declared.kind.Kind.TheVariants as kinds
use Rattle.fx_plain.specs.declared.step.Answer.{Answer}
use Rattle.fx_plain.specs.declared.step.Answer.TheVariants.{Done}
use Rattle.fx_plain.specs.declared.step.Refusal.{Refusal}
use Rattle.fx_plain.specs.declared.step.Refusal.TheVariants.{TooLong}
use Rattle.fx_plain.specs.declared.step.Step.TheVariants.{Write}
use Rattle.fx_plain.proofs.Bare.{write_made}
use Rattle.fx_namespace.specs.Nodes.{NodeId, node_at, object_kind, root_node, told_kind}
use Rattle.fx_namespace.specs.Trees.{node_of}
use Rattle.fx_namespace.proofs.Walks.{EndsWith, ends_with, last_step}
use Rattle.fx_contents.specs.Cuts.{truncated}
use Rattle.fx_contents.specs.Points.{Points, named, points_after, value_under}
use Rattle.fx_contents.specs.Standing.{AreClear, StandForTree, holdings_of}
use Rattle.fx_contents.proofs.OneTree.{tree_of}
use Rattle.fx_contents.proofs.Truncated.{cut_clear, cut_done}
use Rattle.fx_contents.proofs.WrittenText.{write_clear, write_done}
use Rattle.fx_steps.specs.Rows.{Stepped, do_tree_step, refuses_basic, truncate_at, with_basic}
use Rattle.fx_steps.specs.declared.step.TreeStep.TheVariants.{Basic, Truncate}
use Rattle.fx_steps.proofs.Done.{truncate_done}
use Rattle.fx_tree.specs.Plans.{IsDoneWith, PlansSize, PlansText}
use Rattle.fx_tree.proofs.Answered.{no_root_object}
use Rattle.fx_tree.proofs.InTree.{lies_at, parent_dir, walked}
use Rattle.fx_tree.proofs.Ways.{same_at}

-- ---- a file lies where the path leads

abbrev IsFileThere : Tree → List (List ℕ) → Type 0
IsFileThere t path = (walk t path ≡ None) × ((contents : Contents) × (attributes : Attributes) × (get t path ≡ Some (File contents attributes)))

module _ {m : Points} {f : ℕ → List ℕ} {t : Tree} (s : StandForTree m f t) (path : List (List ℕ)) (node : NodeId) (len : ℕ) (led : node_at (value_under m) path ≡ Some node)
    (file : named m (ObjectKey node.store node.id) ≡ Some (FileValue len)) where
  of_kind : (kind : Kind) → object_kind (named m) node ≡ Some kind → get t path ≡ Some (node_of (holdings_of m f s.attributes) node kind) → (contents : Contents) × (attributes : Attributes) × (get t path ≡ Some (File contents attributes))
  of_kind kinds.File k there = (_, _, there)
  of_kind kinds.Dir k there = absurd (let q : Some kinds.File ≡ Some kinds.Dir = sym (ap told_kind file) ∙ k in cc q)

  there_by : EndsWith path → IsFileThere t path
  there_by (inl top) =
      let q : Some root_node ≡ Some node = sym (ap (node_at (value_under m)) top) ∙ led in
      let same : root_node ≡ node = cc q in
      absurd (no_root_object s (FileValue len) (ap (λ (z : NodeId). named m (ObjectKey z.store z.id)) same ∙ file))
  there_by (inr k) =
      let way_is : node_at (named m) (k.0 ++ k.1 ∷ []) ≡ Some node = sym (ap (node_at (named m)) k.2) ∙ same_at m path ∙ led in
      let last = last_step (named m) k.0 k.1 node way_is in
      let lies = lies_at s.stands s.tree_is k.0 last.0 k.1 node last.1 last.2 in (
        ap (walk t) k.2 ∙ walked s.stands s.tree_is k.0 last.0 k.1 last.1 (parent_dir s.stands s.tree_is last.0 k.1 node last.2),
        of_kind lies.0 lies.1 (ap (get t) k.2 ∙ lies.2),
      )

  file_there : IsFileThere t path
  file_there = there_by (ends_with path)

-- ---- on the tree

abbrev Outcome : Type 0
Outcome = Result Answer Refusal × Tree

write_is : (t : Tree) (path : List (List ℕ)) (at : ℕ) (text : List ℕ) → at + length text ≤ MAX_FILE → (i : IsFileThere t path) → do_step t (Write path at text) ≡ (Ok Done, insert t path (File (written at text i.1.0) i.1.1))
write_is t path at text few i =
    ap (λ w. write_at t path at text w (get t path)) i.0 ∙ ap (write_at t path at text None) i.1.2
    ∙ ap (λ b. cond b (Err TooLong, t) (Ok Done, insert t path (File (written at text i.1.0) i.1.1))) (le-ltb MAX_FILE (at + length text) few)

cut_is : (t : Tree) (path : List (List ℕ)) (size : ℕ) → size ≤ MAX_FILE → (i : IsFileThere t path) → truncate_at t path size (walk t path) (get t path) ≡ (Ok Done, insert t path (File (truncated size i.1.0) i.1.1))
cut_is t path size few i =
    ap (λ w. truncate_at t path size w (get t path)) i.0 ∙ ap (truncate_at t path size None) i.1.2
    ∙ ap (λ b. cond b (refuses_basic t TooLong) (Ok Done, insert t path (File (truncated size i.1.0) i.1.1))) (le-ltb MAX_FILE size few)

-- ---- the steps

pub text_does : (m : Points) (f g : ℕ → List ℕ) (t : Tree) (path : List (List ℕ)) (at : ℕ) (text : List ℕ) (said : Said) → StandForTree m f t → AreClear m f → PlansText m f g path at text said
    → IsDoneWith m said g t (Basic (Write path at text))
text_does m f g t path at text said s c d =
    let e = write_is t path at text d.few (file_there s path d.node d.len d.way d.writes.before) in
    let way : node_at (named m) path ≡ Some d.node = same_at m path ∙ d.way in
    record {
      done = ap (λ (r : Outcome). with_basic r.0) e;
      stands = write_done m (points_after m said) f g d.node at text d.len d.writes d.some t s c path way (do_step t (Write path at text)).1
          (write_made t path at text Done (tree_of m f t s) (ap (λ (r : Outcome). r.0) e));
      clear = write_clear m (points_after m said) f g d.node at text d.len d.writes d.some s.within c;
    }

pub size_does : (m : Points) (f g : ℕ → List ℕ) (t : Tree) (path : List (List ℕ)) (size : ℕ) (said : Said) → StandForTree m f t → AreClear m f → PlansSize m f g path size said
    → IsDoneWith m said g t (Truncate path size)
size_does m f g t path size said s c d =
    let e = cut_is t path size d.few (file_there s path d.node d.len d.way d.cuts.before) in
    let way : node_at (named m) path ≡ Some d.node = same_at m path ∙ d.way in
    record {
      done = ap (λ (r : Stepped). r.0) e;
      stands = cut_done m (points_after m said) f g d.node size d.len d.cuts t s (λ up. c) path way (do_tree_step t (Truncate path size)).1
          (truncate_done t path size Done (ap (λ (r : Stepped). r.0) e));
      clear = cut_clear m (points_after m said) f g d.node size d.len d.cuts s.within c;
    }
