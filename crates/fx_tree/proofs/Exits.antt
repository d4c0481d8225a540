-- What the walks of removals and of attributes give: refusals, and plans.
use Rattle.std.proofs.Common.{◌≡◌, ◌≢◌, ◌⊎◌, inl, inr, ℕ, List, [], ◌∷◌, length, refl, sym, ap, ◌∙◌, subst, Bool, true, false, IsTrue}
use Rattle.std.specs.Prelude.{Option, Some, None, Err, is_some, option_map, option_and_then}
use Rattle.std.specs.List.{list_any}
use Rattle.std.specs.Ordering.{eq_by_cmp}
use Rattle.std.specs.FinMap.{get}
use Rattle.std.specs.declared.cmp.Ordering.TheVariants.{Less}
use Rattle.fx_item.specs.Item.{AttributeKey, AttributeValue, ChildKey, ChildValue, GoneValue, GraveKey, PlainItem, PlainValue, WaitingValue}
use Rattle.fx_item.specs.Look.{ItemMap, map_of}
use Rattle.fx_item.specs.Name.{name_cmp}
use Rattle.fx_item.specs.Overlay.{Said, live_in, says}
use Rattle.fx_item.specs.declared.lock.LockKey.{LockKey}
use Rattle.fx_plain.specs.Node.{Node}
use Rattle.fx_plain.specs.Node as plain
use Rattle.fx_plain.specs.Table.{walk}
use Rattle.fx_plain.specs.Tree.{Tree, children}
use Rattle.fx_plain.specs.declared.kind.Kind.{Kind}
use Rattle.fx_plain.specs.declared.kind.Kind.TheVariants.{Dir, File}
use Rattle.fx_plain.specs.declared.step.Refusal.{Refusal}
use Rattle.fx_plain.specs.declared.step.Refusal.TheVariants.{NotFound}
use Rattle.fx_plain.proofs.Children.{children_found}
use Rattle.fx_namespace.specs.Nodes.{NodeId, child, kind_of, led_to, node_at, root_node}
use Rattle.fx_namespace.proofs.Walks.{child_value, kind_of_inner, same_node}
use Rattle.fx_contents.specs.Points.{Points, named, text_in, value_under}
use Rattle.fx_contents.specs.Standing.{StandForTree, holdings_of}
use Rattle.fx_contents.proofs.Amiss.{none_at}
use Rattle.fx_dir.specs.Children.{IsFirstChild}
use Rattle.fx_dir.specs.Walk.{EndsAfter, EndsInTree, GoesThrough, kind_in_tree}
use Rattle.fx_dir.specs.declared.walk.WalkEnd.{WalkEnd}
use Rattle.fx_dir.specs.declared.walk.WalkEnd.TheVariants.{Node as AtNode}
use Rattle.fx_steps.specs.Rows.{attributes_of_node, del_attr_at, del_attr_step, if_childless, remove_at, remove_step, set_attr_at, set_attr_step, without_attr}
use Rattle.fx_steps.specs.declared.refusal.StepRefusal.TheVariants as refusals
use Rattle.fx_tree.specs.Planned.{SaysAttribute, HasChild, IsFullDir, IsLastStep, MeetsWalk, SaysLastBurial}
use Rattle.fx_tree.specs.Plans.{PlansBurial, PlansMark, PlansUnmark}
use Rattle.fx_tree.specs.Saying.{SaysBurial, SaysMark}
use Rattle.fx_tree.proofs.Attributes.{found_there, node_attributes}
use Rattle.fx_tree.proofs.InTree.{lies_at, step_at}
use Rattle.fx_tree.proofs.LastSteps.{IsLookLaw}
use Rattle.fx_tree.proofs.Pairs.{first_here, neither, one_here, one_other, second_here}
use Rattle.fx_tree.proofs.Ways.{same_at, same_kind}

-- ---- what items say

abbrev pub gone_entry : NodeId → List ℕ → PlainItem
gone_entry parent name = record { key = ChildKey parent.store parent.id name; value = GoneValue }

abbrev pub grave_item : NodeId → PlainItem
grave_item node = record { key = GraveKey node.store node.id; value = WaitingValue }

buried_said : (parent : NodeId) (name : List ℕ) (node : NodeId) → SaysBurial (says (gone_entry parent name ∷ grave_item node ∷ [])) parent name node
buried_said parent name node = record {
  gone = first_here (gone_entry parent name) (grave_item node) refl;
  waits = second_here (gone_entry parent name) (grave_item node) refl refl (λ q. cc q);
  others = λ p x y. neither (gone_entry parent name) (grave_item node) p refl refl x y;
}

pub burial_said : (m : ItemMap) (path : List (List ℕ)) (said : Said) (a b : PlainItem) (parent node : NodeId) (name : List ℕ) → IsLastStep m path parent name
    → a ≡ gone_entry parent name → b ≡ grave_item node → said ≡ says (a ∷ b ∷ []) → SaysLastBurial m path node said
burial_said m path said a b parent node name last a_is b_is said_is = record {
  parent = parent;
  name = name;
  last = last;
  says = subst (λ s. SaysBurial s parent name node) (sym (said_is ∙ ap (λ x. says (x ∷ b ∷ [])) a_is ∙ ap (λ x. says (gone_entry parent name ∷ x ∷ [])) b_is)) (buried_said parent name node);
}

abbrev pub text_item : NodeId → List ℕ → List ℕ → PlainItem
text_item node name text = record { key = AttributeKey node.store node.id name; value = AttributeValue text }

abbrev pub gone_text : NodeId → List ℕ → PlainItem
gone_text node name = record { key = AttributeKey node.store node.id name; value = GoneValue }

set_said : (node : NodeId) (name text : List ℕ) → SaysMark (says (text_item node name text ∷ [])) node name (Some text)
set_said node name text = record { attribute = one_here (text_item node name text) refl; others = λ p x. one_other (text_item node name text) p refl x }

unset_said : (node : NodeId) (name : List ℕ) → SaysMark (says (gone_text node name ∷ [])) node name None
unset_said node name = record { attribute = one_here (gone_text node name) refl; others = λ p x. one_other (gone_text node name) p refl x }

-- ---- children and attributes by a look

less_none : (name : List ℕ) → name_cmp name [] ≡ Less → ⊥
less_none [] e = cc e
less_none (x ∷ name) e = cc e

pub child_found : IsLookLaw → (said : Said) (at : NodeId) (from name : List ℕ) → IsFirstChild (map_of said) at from (Some name) → HasChild (live_in said) at true
child_found law said at from name first = (name, first.0.0, sym (law said (ChildKey at.store at.id name)) ∙ first.0.1)

pub no_child_found : IsLookLaw → (said : Said) (at : NodeId) (from : List ℕ) → from ≡ [] → IsFirstChild (map_of said) at from None → HasChild (live_in said) at false
no_child_found law said at from e none = λ name. none_at (value_under (live_in said) (ChildKey at.store at.id name))
    (λ v is. less_none name (ap (name_cmp name) (sym e) ∙ none name (v, law said (ChildKey at.store at.id name) ∙ is)))

-- ---- removals

pub remove_stopped : (t : Tree) (path : List (List ℕ)) (refusal : Refusal) → path ≢ [] → walk t path ≡ Some refusal → (remove_step t path).0 ≡ Err (refusals.Basic refusal)
remove_stopped t [] refusal ne way = absurd (ne refl)
remove_stopped t (x ∷ path) refusal ne way = ap (λ w. (remove_at t (x ∷ path) w (get t (x ∷ path))).0) way

pub remove_missing : (t : Tree) (path : List (List ℕ)) → path ≢ [] → (walk t path ≡ None) × (get t path ≡ None) → (remove_step t path).0 ≡ Err (refusals.Basic NotFound)
remove_missing t [] ne i = absurd (ne refl)
remove_missing t (x ∷ path) ne i = ap (λ w. (remove_at t (x ∷ path) w (get t (x ∷ path))).0) i.0 ∙ ap (λ o. (remove_at t (x ∷ path) None o).0) i.1

full_step : (t : Tree) (path : List (List ℕ)) (attributes : plain.Attributes) → path ≢ [] → walk t path ≡ None → get t path ≡ Some (plain.Dir attributes) → children t path ≢ [] → (remove_step t path).0 ≡ Err refusals.NotEmpty
full_step t [] attributes ne way there some = absurd (ne refl)
full_step t (x ∷ path) attributes ne way there some =
    ap (λ w. (remove_at t (x ∷ path) w (get t (x ∷ path))).0) way ∙ ap (λ o. (remove_at t (x ∷ path) None o).0) there ∙ by (children t (x ∷ path)) refl
  where
    by : (names : List (List ℕ)) → children t (x ∷ path) ≡ names → (if_childless t (x ∷ path) names).0 ≡ Err refusals.NotEmpty
    by [] e = absurd (some e)
    by (y ∷ ys) e = refl

pub dir_there : (o : Option Node) (kind : Kind) → kind ≡ Dir → option_map kind_in_tree o ≡ Some kind → (attributes : plain.Attributes) × (o ≡ Some (plain.Dir attributes))
dir_there None kind is e = absurd (let q : None ≡ Some kind = e in cc q)
dir_there (Some (plain.Dir attributes)) kind is e = (attributes, refl)
dir_there (Some (plain.File contents attributes)) kind is e = absurd (let q : Some File ≡ Some Dir = e ∙ ap Some is in cc q)

module _ {m : Points} {f : ℕ → List ℕ} {t : Tree} {path : List (List ℕ)} {dirs : List LockKey} {end : WalkEnd} (s : StandForTree m f t) (w : MeetsWalk m path dirs end) (node : NodeId) (kind : Kind) (is : end ≡ AtNode node kind) where
  ended : EndsAfter (value_under m) path (length dirs) (AtNode node kind)
  ended = subst (EndsAfter (value_under m) path (length dirs)) is w.ends_after

  pub led : node_at (value_under m) path ≡ Some node
  led = ended.1

  pub led_named : node_at (named m) path ≡ Some node
  led_named = same_at m path ∙ led

  kind_named : kind_of (named m) node ≡ Some kind
  kind_named = same_kind s path node led_named ∙ ended.2

  pub met : EndsInTree t path (AtNode node kind)
  met = subst (EndsInTree t path) is (w.tree f t s)

  -- an entry leads to a node
  leads_by : (x : List ℕ) (v : PlainValue) → value_under m (ChildKey node.store node.id x) ≡ Some v → (node ≡ root_node) ⊎ (node ≢ root_node) → (y : NodeId) × (child (named m) node x ≡ Some y)
  leads_by x v e (inl top) =
      let o = s.stands.volumes x v (sym (ap (λ (z : NodeId). value_under m (ChildKey z.store z.id x)) top) ∙ e) in
      (record { store = o.0; id = 0 }, ap led_to (e ∙ ap Some o.1))
  leads_by x v e (inr inner) = let o = s.stands.inner node x v inner e in (record { store = node.store; id = o.0 }, ap led_to (e ∙ ap Some o.1))

  -- a file has no child
  file_by : kind ≡ File → (x : List ℕ) (v : PlainValue) → value_under m (ChildKey node.store node.id x) ≡ Some v → (node ≡ root_node) ⊎ (node ≢ root_node) → ⊥
  file_by file x v e (inl top) = let q : Some Dir ≡ Some File = sym (ap (kind_of (named m)) top) ∙ kind_named ∙ ap Some file in cc q
  file_by file x v e (inr inner) =
      let q : Some Dir ≡ Some File = sym (s.stands.parents node x v inner e) ∙ kind_of_inner (named m) node kind inner kind_named ∙ ap Some file in cc q

  childless : (k : Kind) → kind ≡ k → IsFullDir m node k false → (x : List ℕ) → value_under m (ChildKey node.store node.id x) ≡ None
  childless Dir e none x = none x
  childless File e none x = none_at (value_under m (ChildKey node.store node.id x)) (λ v is. file_by e x v is (same_node node root_node))

  full_by : (k : Kind) → kind ≡ k → path ≢ [] → IsFullDir m node k true → (remove_step t path).0 ≡ Err refusals.NotEmpty
  full_by File e ne some = absurd (let q : true ≡ false = some in cc q)
  full_by Dir e ne some =
      let x = some.0 in
      let y = leads_by x some.1 some.2 (same_node node root_node) in
      let lies = lies_at s.stands s.tree_is path node x y.0 led_named y.1 in
      let d = dir_there (get t path) kind e met.1 in
      full_step t path d.0 ne met.0 d.1 (λ none.
      let q : true ≡ false = sym (ap is_some lies.2) ∙ sym (children_found t path x) ∙ ap (list_any (eq_by_cmp name_cmp x)) none in cc q)

  pub remove_full : (found : Bool) → found ≡ true → path ≢ [] → IsFullDir m node kind found → (remove_step t path).0 ≡ Err refusals.NotEmpty
  remove_full found e ne full = full_by kind refl ne (subst (IsFullDir m node kind) e full)

  entry_there : (parent : NodeId) (name : List ℕ) → IsLastStep (value_under m) path parent name → value_under m (ChildKey parent.store parent.id name) ≡ Some (ChildValue node.store node.id)
  entry_there parent name last = child_value (value_under m) parent name node
      (sym (step_at (value_under m) last.above name ∙ ap (option_and_then (λ y. child (value_under m) y name)) last.way) ∙ ap (node_at (value_under m)) (sym last.path_is) ∙ led)

  burial_by : (said : Said) → ((x : List ℕ) → value_under m (ChildKey node.store node.id x) ≡ None) → path ≢ [] → (path ≡ []) ⊎ SaysLastBurial (value_under m) path node said → PlansBurial m path said
  burial_by said none ne (inl top) = absurd (ne top)
  burial_by said none ne (inr d) = record {
    above = d.last.above;
    name = d.name;
    parent = d.parent;
    node = node;
    path_is = d.last.path_is;
    way = d.last.way;
    entry = entry_there d.parent d.name d.last;
    childless = none;
    says = d.says;
  }

  pub burial_planned : (found : Bool) (said : Said) → found ≡ false → path ≢ [] → IsFullDir m node kind found
      → ((n : ItemMap) → GoesThrough n path dirs → (path ≡ []) ⊎ SaysLastBurial n path node said) → PlansBurial m path said
  burial_planned found said e ne full buried = burial_by said (childless kind refl (subst (IsFullDir m node kind) e full)) ne (buried (value_under m) w.through)

  -- ---- attributes

  pub set_planned : (name text : List ℕ) (said : Said) (a : PlainItem) → path ≢ [] → a ≡ text_item node name text → said ≡ says (a ∷ []) → PlansMark m path name (Some text) said
  set_planned name text said a ne a_is said_is = record {
    node = node;
    below_root = ne;
    way = led;
    says = subst (λ z. SaysMark z node name (Some text)) (sym (said_is ∙ ap (λ x. says (x ∷ [])) a_is)) (set_said node name text);
  }

  text_by : (name : List ℕ) (o : Option (List ℕ)) → text_in (value_under m (AttributeKey node.store node.id name)) ≡ o → true ≡ is_some o → (text : List ℕ) × (text_in (value_under m (AttributeKey node.store node.id name)) ≡ Some text)
  text_by name None e some = absurd (cc some)
  text_by name (Some text) e some = (text, e)

  pub unset_planned : (name : List ℕ) (found : Bool) (said : Said) (a : PlainItem) → path ≢ [] → found ≡ true → SaysAttribute m node name found → a ≡ gone_text node name → said ≡ says (a ∷ [])
      → PlansUnmark m path name said
  unset_planned name found said a ne e has a_is said_is =
      let o = text_by name (text_in (value_under m (AttributeKey node.store node.id name))) refl (sym e ∙ has) in
      record {
        mark = record {
          node = node;
          below_root = ne;
          way = led;
          says = subst (λ z. SaysMark z node name None) (sym (said_is ∙ ap (λ x. says (x ∷ [])) a_is)) (unset_said node name);
        };
        text = o.0;
        there = o.1;
      }

  no_text : (o : Option (List ℕ)) → false ≡ is_some o → o ≡ None
  no_text None e = refl
  no_text (Some text) e = absurd (cc e)

  none_step : (p : List (List ℕ)) (name : List ℕ) (x : Node) → p ≢ [] → walk t p ≡ None → get t p ≡ Some x → get (attributes_of_node x) name ≡ None → (del_attr_step t p name).0 ≡ Err refusals.NoAttr
  none_step [] name x ne way there none = absurd (ne refl)
  none_step (y ∷ p) name x ne way there none = ap (λ o. (del_attr_at t (y ∷ p) name o (get t (y ∷ p))).0) way
      ∙ ap (λ o. (del_attr_at t (y ∷ p) name None o).0) there ∙ ap (λ o. (without_attr t (y ∷ p) name x o).0) none

  pub unset_none : (name : List ℕ) (found : Bool) → path ≢ [] → found ≡ false → SaysAttribute m node name found → (del_attr_step t path name).0 ≡ Err refusals.NoAttr
  unset_none name found ne e has =
      let k = found_there s path name node ne led in
      none_step path name _ ne k.1 k.2 (ap (λ a. get a name) (node_attributes (holdings_of m f s.attributes) node k.0) ∙ k.3
      ∙ no_text (text_in (value_under m (AttributeKey node.store node.id name))) (sym e ∙ has))

pub set_stopped : (t : Tree) (path : List (List ℕ)) (name value : List ℕ) (refusal : Refusal) → path ≢ [] → walk t path ≡ Some refusal → (set_attr_step t path name value).0 ≡ Err (refusals.Basic refusal)
set_stopped t [] name value refusal ne way = absurd (ne refl)
set_stopped t (x ∷ path) name value refusal ne way = ap (λ w. (set_attr_at t (x ∷ path) name value w (get t (x ∷ path))).0) way

pub set_missing : (t : Tree) (path : List (List ℕ)) (name value : List ℕ) → path ≢ [] → (walk t path ≡ None) × (get t path ≡ None) → (set_attr_step t path name value).0 ≡ Err (refusals.Basic NotFound)
set_missing t [] name value ne i = absurd (ne refl)
set_missing t (x ∷ path) name value ne i = ap (λ w. (set_attr_at t (x ∷ path) name value w (get t (x ∷ path))).0) i.0 ∙ ap (λ o. (set_attr_at t (x ∷ path) name value None o).0) i.1

pub unset_stopped : (t : Tree) (path : List (List ℕ)) (name : List ℕ) (refusal : Refusal) → path ≢ [] → walk t path ≡ Some refusal → (del_attr_step t path name).0 ≡ Err (refusals.Basic refusal)
unset_stopped t [] name refusal ne way = absurd (ne refl)
unset_stopped t (x ∷ path) name refusal ne way = ap (λ w. (del_attr_at t (x ∷ path) name w (get t (x ∷ path))).0) way

pub unset_missing : (t : Tree) (path : List (List ℕ)) (name : List ℕ) → path ≢ [] → (walk t path ≡ None) × (get t path ≡ None) → (del_attr_step t path name).0 ≡ Err (refusals.Basic NotFound)
unset_missing t [] name ne i = absurd (ne refl)
unset_missing t (x ∷ path) name ne i = ap (λ w. (del_attr_at t (x ∷ path) name w (get t (x ∷ path))).0) i.0 ∙ ap (λ o. (del_attr_at t (x ∷ path) name None o).0) i.1

-- a path that is not empty, by the test
pub some_path : (path : List (List ℕ)) (empty : Bool) → empty ≡ false → (path ≡ [] → IsTrue empty) → path ≢ []
some_path path true e h top = absurd (cc e)
some_path path false e h top = cc (h top)
