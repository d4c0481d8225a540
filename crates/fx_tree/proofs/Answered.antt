-- What steps that only look answer, by their walks.
use Rattle.std.proofs.Common.{◌≡◌, ◌≢◌, ◌⊎◌, inl, inr, ℕ, List, [], ◌∷◌, refl, sym, ap, ◌∙◌, subst}
use Rattle.std.specs.Prelude.{Option, Some, None, Ok, Err, option_map}
use Rattle.std.specs.FinMap as map
use Rattle.std.specs.FinMap.{get}
use Rattle.fx_item.specs.Item.{AttributeKey, ObjectKey, PlainValue}
use Rattle.fx_item.specs.Look.{map_of}
use Rattle.fx_item.specs.Name.{name_cmp}
use Rattle.fx_item.specs.Overlay.{Said, live_in}
use Rattle.fx_item.specs.declared.lock.LockKey.{LockKey}
use Rattle.fx_plain.specs.Node.{Node, empty_dir}
use Rattle.fx_plain.specs.Node as plain
use Rattle.fx_plain.specs.Table.{list_at, walk}
use Rattle.fx_plain.specs.Tree.{Tree}
use Rattle.fx_plain.specs.declared.kind.Kind.{Kind}
use Rattle.fx_plain.specs.declared.kind.Kind.TheVariants.{Dir, File}
use Rattle.fx_plain.specs.declared.step.Answer.TheVariants.{Names}
use Rattle.fx_plain.specs.declared.step.Refusal.{Refusal}
use Rattle.fx_plain.specs.declared.step.Refusal.TheVariants.{NotDir, NotFound}
use Rattle.fx_namespace.specs.Nodes.{NodeId, node_at, root_node}
use Rattle.fx_namespace.proofs.Walks.{kind_value, last_step, root_not_led}
use Rattle.fx_contents.specs.Points.{Points, named, text_in, unless_waiting, value_under}
use Rattle.fx_contents.specs.Standing.{StandForTree, holdings_of}
use Rattle.fx_contents.proofs.Amiss.{none_at}
use Rattle.fx_contents.proofs.OneTree.{tree_of}
use Rattle.fx_dir.specs.Children.{AreChildren}
use Rattle.fx_dir.specs.Walk.{kind_in_tree}
use Rattle.fx_dir.specs.declared.walk.WalkEnd.{WalkEnd}
use Rattle.fx_dir.specs.declared.walk.WalkEnd.TheVariants.{Node as AtNode}
use Rattle.fx_dir.proofs.TreeNames.{same_children}
use Rattle.fx_steps.specs.Rows.{attributes_of_node, get_attr_at, told_attr, with_basic}
use Rattle.fx_steps.specs.declared.refusal.StepRefusal.TheVariants as refusals
use Rattle.fx_tree.specs.Planned.{MeetsWalk}
use Rattle.fx_tree.proofs.Attributes.{found_there, node_attributes}
use Rattle.fx_tree.proofs.Exits.{dir_there, led, led_named, met}
use Rattle.fx_tree.proofs.LastSteps.{IsLookLaw, map_is}

-- ---- refusals

pub list_stopped : (t : Tree) (path : List (List ℕ)) (refusal : Refusal) → walk t path ≡ Some refusal → with_basic (list_at t path (walk t path) (get t path)) ≡ Err (refusals.Basic refusal)
list_stopped t path refusal way = ap (λ w. with_basic (list_at t path w (get t path))) way

pub list_missing : (t : Tree) (path : List (List ℕ)) → (walk t path ≡ None) × (get t path ≡ None) → with_basic (list_at t path (walk t path) (get t path)) ≡ Err (refusals.Basic NotFound)
list_missing t path i = ap (λ w. with_basic (list_at t path w (get t path))) i.0 ∙ ap (λ o. with_basic (list_at t path None o)) i.1

pub attr_stopped : (t : Tree) (path : List (List ℕ)) (name : List ℕ) (refusal : Refusal) → walk t path ≡ Some refusal → get_attr_at name (walk t path) (get t path) ≡ Err (refusals.Basic refusal)
attr_stopped t path name refusal way = ap (λ w. get_attr_at name w (get t path)) way

pub attr_missing : (t : Tree) (path : List (List ℕ)) (name : List ℕ) → (walk t path ≡ None) × (get t path ≡ None) → get_attr_at name (walk t path) (get t path) ≡ Err (refusals.Basic NotFound)
attr_missing t path name i = ap (λ w. get_attr_at name w (get t path)) i.0 ∙ ap (λ o. get_attr_at name None o) i.1

list_there : (t : Tree) (path : List (List ℕ)) (x : Node) → walk t path ≡ None → get t path ≡ Some x → with_basic (list_at t path (walk t path) (get t path)) ≡ with_basic (list_at t path None (Some x))
list_there t path x way there = ap (λ w. with_basic (list_at t path w (get t path))) way ∙ ap (λ o. with_basic (list_at t path None o)) there

file_lies : (o : Option Node) (kind : Kind) → kind ≡ File → option_map kind_in_tree o ≡ Some kind → (contents : plain.Contents) × (attributes : plain.Attributes) × (o ≡ Some (plain.File contents attributes))
file_lies None kind is e = absurd (let q : None ≡ Some kind = e in cc q)
file_lies (Some (plain.Dir attributes)) kind is e = absurd (let q : Some Dir ≡ Some File = e ∙ ap Some is in cc q)
file_lies (Some (plain.File contents attributes)) kind is e = (contents, attributes, refl)

-- ---- the root has no Object

pub no_root_object : {m : Points} {f : ℕ → List ℕ} {t : Tree} → StandForTree m f t → (v : PlainValue) → named m (ObjectKey 0 0) ≡ Some v → ⊥
no_root_object {m = m} s v e =
    let r = s.stands.reached root_node v e in
    let l = last_step (named m) r.0 r.1 root_node r.2 in
    root_not_led (named m) s.stands l.0 r.1 l.2

module _ {m : Points} {f : ℕ → List ℕ} {t : Tree} {path : List (List ℕ)} {dirs : List LockKey} {end : WalkEnd} (s : StandForTree m f t) (w : MeetsWalk m path dirs end) (node : NodeId) (kind : Kind) (is : end ≡ AtNode node kind) where
  pub list_file : kind ≡ File → with_basic (list_at t path (walk t path) (get t path)) ≡ Err (refusals.Basic NotDir)
  list_file file =
      let e = met s w node kind is in
      let x = file_lies (get t path) kind file e.1 in
      list_there t path _ e.0 x.2

  named_children : (names : List (List ℕ)) → AreChildren (value_under m) node names → AreChildren (named m) node names
  named_children names c = record { there = c.there; all = c.all; rising = c.rising }

  pub list_dir : kind ≡ Dir → (names : List (List ℕ)) → AreChildren (value_under m) node names → with_basic (list_at t path (walk t path) (get t path)) ≡ Ok (Names names)
  list_dir dir names c =
      let e = met s w node kind is in
      let x = dir_there (get t path) kind dir e.1 in
      list_there t path _ e.0 x.1 ∙ ap (λ z. Ok (Names z)) (sym (same_children s.stands s.tree_is path (led_named s w node kind is) names (named_children names c)))

  -- ---- attributes

  attr_there : (name : List ℕ) (x : Node) → walk t path ≡ None → get t path ≡ Some x → get_attr_at name (walk t path) (get t path) ≡ told_attr (get (attributes_of_node x) name)
  attr_there name x way there = ap (λ o. get_attr_at name o (get t path)) way ∙ ap (λ o. get_attr_at name None o) there

  root_none : (name : List ℕ) → value_under m (AttributeKey 0 0 name) ≡ None
  root_none name = none_at (value_under m (AttributeKey 0 0 name)) (λ v e.
      let o = s.within.attribute 0 0 name v e in
      let k = kind_value (value_under m (ObjectKey 0 0)) o.0 o.1 in
      no_root_object s k.0 (ap (λ g. unless_waiting g (value_under m (ObjectKey 0 0))) s.within.root ∙ k.1))

  attr_by : (name : List ℕ) (value : Option PlainValue) → value ≡ value_under m (AttributeKey node.store node.id name) → (path ≡ []) ⊎ (path ≢ []) → get_attr_at name (walk t path) (get t path) ≡ told_attr (text_in value)
  attr_by name value e (inl top) =
      let q : Some root_node ≡ Some node = sym (ap (node_at (value_under m)) top) ∙ led s w node kind is in
      let same : root_node ≡ node = cc q in
      let none : value ≡ None = e ∙ sym (ap (λ (z : NodeId). value_under m (AttributeKey z.store z.id name)) same) ∙ root_none name in
      attr_there name empty_dir (ap (walk t) top) (ap (get t) top ∙ (tree_of m f t s).top) ∙ ap told_attr (map.get-empty name_cmp name) ∙ sym (ap (λ o. told_attr (text_in o)) none)
  attr_by name value e (inr below) =
      let k = found_there s path name node below (led s w node kind is) in
      attr_there name _ k.1 k.2 ∙ ap (λ a. told_attr (get a name)) (node_attributes (holdings_of m f s.attributes) node k.0) ∙ ap told_attr k.3 ∙ sym (ap (λ o. told_attr (text_in o)) e)

  is_nil : (p : List (List ℕ)) → (p ≡ []) ⊎ (p ≢ [])
  is_nil [] = inl refl
  is_nil (x ∷ p) = inr (λ e. cc e)

  pub attr_told : (name : List ℕ) (value : Option PlainValue) → value ≡ value_under m (AttributeKey node.store node.id name) → get_attr_at name (walk t path) (get t path) ≡ told_attr (text_in value)
  attr_told name value e = attr_by name value e (is_nil path)

pub children_under : IsLookLaw → (said : Said) (node : NodeId) (names : List (List ℕ)) → AreChildren (map_of said) node names → AreChildren (value_under (live_in said)) node names
children_under law said node names c = subst (λ z. AreChildren z node names) (map_is law said) c
