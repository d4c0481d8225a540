-- The plan of an attribute that is set or taken away does it.
use Rattle.std.proofs.Common.{◌≡◌, ◌≢◌, inl, inr, ℕ, List, [], ◌∷◌, ◌++◌, refl, sym, ap, ◌∙◌, subst}
use Rattle.std.specs.Prelude.{Option, Some, None, Ok, option_map}
use Rattle.std.specs.FinMap.{get, insert}
use Rattle.fx_item.specs.Item.{AttributeKey}
use Rattle.fx_item.specs.Look.{value_of_entry}
use Rattle.fx_item.specs.Overlay.{AtKey, Said}
use Rattle.fx_plain.specs.Node.{Node}
use Rattle.fx_plain.specs.Table.{walk}
use Rattle.fx_plain.specs.Tree.{Tree}
use Rattle.fx_plain.specs.declared.kind.Kind.{Kind}
use Rattle.fx_plain.specs.declared.kind.Kind.TheVariants.{Dir, File}
use Rattle.fx_plain.specs.declared.step.Answer.TheVariants.{Done}
use Rattle.fx_namespace.specs.Nodes.{NodeId, node_at}
use Rattle.fx_namespace.specs.Trees.{Holdings, node_of}
use Rattle.fx_namespace.proofs.Walks.{EndsWith, ends_with, last_step}
use Rattle.fx_contents.specs.Marks.{SetsAttribute, marked_node}
use Rattle.fx_contents.specs.Points.{Points, entry_after, named, points_after, text_in, unless_waiting, value_under}
use Rattle.fx_contents.specs.Standing.{AreClear, StandForTree, holdings_of}
use Rattle.fx_contents.proofs.Marked.{mark_clear, mark_done}
use Rattle.fx_contents.proofs.OneTree.{not_waiting}
use Rattle.fx_steps.specs.Rows.{Stepped, attributes_of_node, del_attr_at, del_attr_step, set_attr_at, set_attr_step, without_attr}
use Rattle.fx_steps.specs.declared.step.TreeStep.TheVariants.{DelAttr, SetAttr}
use Rattle.fx_tree.specs.Plans.{IsDoneBy, PlansMark, PlansUnmark}
use Rattle.fx_tree.specs.Saying.{text_entry}
use Rattle.fx_tree.proofs.Ways.{same_at}
use Rattle.fx_tree.proofs.InTree.{lies_at, parent_dir, walked}

-- ---- on the tree

set_step : (t : Tree) (path : List (List ℕ)) (name value : List ℕ) (x : Node) → path ≢ [] → walk t path ≡ None → get t path ≡ Some x
    → set_attr_step t path name value ≡ (Ok Done, insert t path (marked_node name (Some value) x))
set_step t [] name value x ne way there = absurd (ne refl)
set_step t (y ∷ path) name value x ne way there = ap (λ w. set_attr_at t (y ∷ path) name value w (get t (y ∷ path))) way ∙ ap (set_attr_at t (y ∷ path) name value None) there

unset_step : (t : Tree) (path : List (List ℕ)) (name text : List ℕ) (x : Node) → path ≢ [] → walk t path ≡ None → get t path ≡ Some x → get (attributes_of_node x) name ≡ Some text
    → del_attr_step t path name ≡ (Ok Done, insert t path (marked_node name None x))
unset_step t [] name text x ne way there has = absurd (ne refl)
unset_step t (y ∷ path) name text x ne way there has =
    ap (λ w. del_attr_at t (y ∷ path) name w (get t (y ∷ path))) way ∙ ap (del_attr_at t (y ∷ path) name None) there ∙ ap (without_attr t (y ∷ path) name x) has

pub node_attributes : (h : Holdings) (node : NodeId) (kind : Kind) → attributes_of_node (node_of h node kind) ≡ h.attributes node
node_attributes h node Dir = refl
node_attributes h node File = refl

-- ---- what lies where a path leads

abbrev pub IsThere : (m : Points) (f : ℕ → List ℕ) (t : Tree) → StandForTree m f t → List (List ℕ) → List ℕ → NodeId → Type 0
IsThere m f t s path name node = (kind : Kind) × (walk t path ≡ None) × (get t path ≡ Some (node_of (holdings_of m f s.attributes) node kind))
    × (get (s.attributes node) name ≡ text_in (value_under m (AttributeKey node.store node.id name)))

module _ {m : Points} {f : ℕ → List ℕ} {t : Tree} (s : StandForTree m f t) (path : List (List ℕ)) (name : List ℕ) (node : NodeId) (below : path ≢ []) (led : node_at (value_under m) path ≡ Some node) where
  there_by : EndsWith path → IsThere m f t s path name node
  there_by (inl top) = absurd (below top)
  there_by (inr k) =
      let way_is : node_at (named m) (k.0 ++ k.1 ∷ []) ≡ Some node = sym (ap (node_at (named m)) k.2) ∙ same_at m path ∙ led in
      let last = last_step (named m) k.0 k.1 node way_is in
      let lies = lies_at s.stands s.tree_is k.0 last.0 k.1 node last.1 last.2 in (
        lies.0,
        ap (walk t) k.2 ∙ walked s.stands s.tree_is k.0 last.0 k.1 last.1 (parent_dir s.stands s.tree_is last.0 k.1 node last.2),
        ap (get t) k.2 ∙ lies.2,
        s.attributes_are.at node name ∙ ap (λ g. text_in (unless_waiting g (value_under m (AttributeKey node.store node.id name)))) (not_waiting m f t k.0 k.1 node s way_is),
      )

  pub found_there : IsThere m f t s path name node
  found_there = there_by (ends_with path)

-- ---- on the items

said_text : (text : Option (List ℕ)) → text_in (value_of_entry (option_map text_entry text)) ≡ text
said_text None = refl
said_text (Some text) = refl

module _ {m : Points} {f : ℕ → List ℕ} {t : Tree} {path : List (List ℕ)} {name : List ℕ} {text : Option (List ℕ)} {said : Said}
    (s : StandForTree m f t) (d : PlansMark m path name text said) where
  pub way : node_at (named m) path ≡ Some d.node
  way = same_at m path ∙ d.way

  pub there : IsThere m f t s path name d.node
  there = found_there s path name d.node d.below_root d.way

  sets : SetsAttribute m (points_after m said) d.node name text
  sets = record {
    after = ap (λ o. text_in (value_of_entry (entry_after o (m (AtKey (AttributeKey d.node.store d.node.id name)))))) d.says.attribute ∙ said_text text;
    others = λ p a e. ap (λ o. entry_after o (m p)) (d.says.others p a);
  }

  pub stands : StandForTree (points_after m said) f (insert t path (marked_node name text (node_of (holdings_of m f s.attributes) d.node there.0)))
  stands = mark_done m (points_after m said) d.node name text sets f t s path way d.below_root _
      (record { node = _; there = there.2; below_root = d.below_root; inserted = refl })

  pub clear : AreClear m f → AreClear (points_after m said) f
  clear c = mark_clear m (points_after m said) d.node name text sets f c

pub set_does : (m : Points) (f : ℕ → List ℕ) (t : Tree) (path : List (List ℕ)) (name value : List ℕ) (said : Said) → StandForTree m f t
    → PlansMark m path name (Some value) said → IsDoneBy m said f t (SetAttr path name value)
set_does m f t path name value said s d =
    let k = there s d in
    let e = set_step t path name value _ d.below_root k.1 k.2 in
    record {
      done = ap (λ (r : Stepped). r.0) e;
      stands = subst (λ (r : Stepped). StandForTree (points_after m said) f r.1) (sym e) (stands s d);
      clear = clear s d;
    }

pub unset_does : (m : Points) (f : ℕ → List ℕ) (t : Tree) (path : List (List ℕ)) (name : List ℕ) (said : Said) → StandForTree m f t
    → PlansUnmark m path name said → IsDoneBy m said f t (DelAttr path name)
unset_does m f t path name said s u =
    let d = u.mark in
    let k = there s d in
    let has : get (s.attributes d.node) name ≡ Some u.text = k.3 ∙ u.there in
    let e = unset_step t path name u.text _ d.below_root k.1 k.2 (ap (λ a. get a name) (node_attributes (holdings_of m f s.attributes) d.node k.0) ∙ has) in
    record {
      done = ap (λ (r : Stepped). r.0) e;
      stands = subst (λ (r : Stepped). StandForTree (points_after m said) f r.1) (sym e) (stands s d);
      clear = clear s d;
    }
