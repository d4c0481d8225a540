-- The plan of a removal does it: what lies at the path goes, and waits in the graveyard.
use Rattle.std.proofs.Common.{◌≡◌, ◌≢◌, ℕ, List, [], ◌∷◌, ◌++◌, refl, sym, ap, ◌∙◌, subst, true, false}
use Rattle.std.specs.Prelude.{Some, None, Ok, is_some, ◌||◌}
use Rattle.std.specs.List.{list_any}
use Rattle.std.specs.Ordering.{eq_by_cmp}
use Rattle.std.proofs.lemmas.List.{append-nil}
use Rattle.std.specs.FinMap.{get, remove}
use Rattle.fx_item.specs.Item.{ChildKey, GraveKey, WaitingValue}
use Rattle.fx_item.specs.Look.{value_of_entry}
use Rattle.fx_item.specs.Name.{name_cmp}
use Rattle.fx_item.specs.Overlay.{AtKey, Said}
use Rattle.fx_plain.specs.Node.{Node, Dir, File}
use Rattle.fx_plain.specs.Table.{walk}
use Rattle.fx_plain.specs.Tree.{Tree, children}
use Rattle.fx_plain.specs.declared.kind.Kind.TheVariants as kinds
use Rattle.fx_plain.specs.declared.step.Answer.TheVariants.{Done}
use Rattle.fx_plain.proofs.Children.{children_found}
use Rattle.fx_namespace.specs.Nodes.{child, kind_of, led_to, node_at}
use Rattle.fx_namespace.proofs.Walks.{more_step}
use Rattle.fx_contents.specs.Points.{Points, entry_after, named, points_after}
use Rattle.fx_contents.specs.Removal.{Buries}
use Rattle.fx_contents.specs.Standing.{StandForTree}
use Rattle.fx_contents.proofs.RemovedNode.{bury_clear, bury_stands}
use Rattle.fx_steps.specs.Rows.{Stepped, if_childless, remove_at, remove_step}
use Rattle.fx_steps.specs.declared.step.TreeStep.TheVariants.{Remove}
use Rattle.fx_steps.proofs.Below.{name_itself}
use Rattle.fx_tree.specs.Plans.{IsDoneBy, PlansBurial}
use Rattle.fx_tree.proofs.Ways.{same_at}
use Rattle.fx_tree.proofs.InTree.{lies_at, nothing_at, parent_dir, walked}

-- ---- on the tree

-- a directory without a child below it has no children
pub no_names : (t : Tree) (path : List (List ℕ)) → ((name : List ℕ) → get t (path ++ name ∷ []) ≡ None) → children t path ≡ []
no_names t path none = by (children t path) refl
  where
    by : (names : List (List ℕ)) → children t path ≡ names → names ≡ []
    by [] e = refl
    by (x ∷ xs) e =
        let found : list_any (eq_by_cmp name_cmp x) (x ∷ xs) ≡ false = ap (list_any (eq_by_cmp name_cmp x)) (sym e) ∙ children_found t path x ∙ ap is_some (none x) in
        let itself : list_any (eq_by_cmp name_cmp x) (x ∷ xs) ≡ true = ap (λ b. b || list_any (eq_by_cmp name_cmp x) xs) (name_itself x) in
        absurd (let q : true ≡ false = sym itself ∙ found in cc)

removed_at : (t : Tree) (path : List (List ℕ)) (x : Node) → children t path ≡ [] → remove_at t path None (Some x) ≡ (Ok Done, remove t path)
removed_at t path (Dir attributes) none = ap (if_childless t path) none
removed_at t path (File contents attributes) none = refl

removed_step : (t : Tree) (path : List (List ℕ)) (x : Node) → path ≢ [] → walk t path ≡ None → get t path ≡ Some x → children t path ≡ [] → remove_step t path ≡ (Ok Done, remove t path)
removed_step t [] x ne way there none = absurd (ne refl)
removed_step t (y ∷ path) x ne way there none = ap (λ w. remove_at t (y ∷ path) w (get t (y ∷ path))) way ∙ ap (remove_at t (y ∷ path) None) there ∙ removed_at t (y ∷ path) x none

pub not_top : (path above : List (List ℕ)) (name : List ℕ) → path ≡ above ++ name ∷ [] → path ≢ []
not_top path [] name is e = cc (sym e ∙ is)
not_top path (y ∷ above) name is e = cc (sym e ∙ is)

-- ---- on the items

module _ {m : Points} {f : ℕ → List ℕ} {t : Tree} {path : List (List ℕ)} {said : Said} (s : StandForTree m f t) (d : PlansBurial m path said) where
  way : node_at (named m) d.above ≡ Some d.parent
  way = same_at m d.above ∙ d.way

  led : child (named m) d.parent d.name ≡ Some d.node
  led = ap led_to d.entry

  directory : kind_of (named m) d.parent ≡ Some kinds.Dir
  directory = parent_dir s.stands s.tree_is d.parent d.name d.node led

  childless : (name : List ℕ) → get t (path ++ name ∷ []) ≡ None
  childless name =
      ap (λ p. get t (p ++ name ∷ [])) d.path_is ∙ ap (get t) (sym (append-nil ((d.above ++ d.name ∷ []) ++ name ∷ [])))
      ∙ nothing_at s.stands s.tree_is (d.above ++ d.name ∷ []) d.node name (more_step (named m) d.above d.parent d.name d.node way led) (d.childless name) []

  buries : Buries m (points_after m said) d.parent d.name d.node
  buries = record {
    entry = d.entry;
    gone = ap (λ o. value_of_entry (entry_after o (m (AtKey (ChildKey d.parent.store d.parent.id d.name))))) d.says.gone;
    waits = (WaitingValue, ap (λ o. value_of_entry (entry_after o (m (AtKey (GraveKey d.node.store d.node.id))))) d.says.waits);
    others = λ p a c e. ap (λ o. entry_after o (m p)) (d.says.others p a c);
  }

  step_is : remove_step t path ≡ (Ok Done, remove t path)
  step_is =
      let lies = lies_at s.stands s.tree_is d.above d.parent d.name d.node way led in
      removed_step t path _ (not_top path d.above d.name d.path_is) (ap (walk t) d.path_is ∙ walked s.stands s.tree_is d.above d.parent d.name way directory)
      (ap (get t) d.path_is ∙ lies.2) (no_names t path childless)

pub remove_does : (m : Points) (f : ℕ → List ℕ) (t : Tree) (path : List (List ℕ)) (said : Said) → StandForTree m f t → PlansBurial m path said → IsDoneBy m said f t (Remove path)
remove_does m f t path said s d =
    let e = step_is s d in
    record {
      done = ap (λ (r : Stepped). r.0) e;
      stands = subst (λ (r : Stepped). StandForTree (points_after m said) f r.1) (sym e) (subst (λ p. StandForTree (points_after m said) f (remove t p)) (sym d.path_is)
          (bury_stands m (points_after m said) d.parent d.name d.node (buries s d) f t s d.childless d.above (way s d)));
      clear = λ c. bury_clear m (points_after m said) d.parent d.name d.node (buries s d) f c;
    }
