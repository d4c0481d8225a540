-- What the items of steps say, and what a walk gives for a new node.
use Rattle.std.proofs.Common.{◌≡◌, ◌≢◌, ◌⊎◌, inl, inr, ℕ, ◌+◌, ◌<◌, ◌≤◌, List, [], ◌∷◌, length, length-append, refl, sym, ap, ◌∙◌, subst, cond, arith}
use Rattle.std.specs.Prelude.{Option, Some, None, Err, option_map}
use Rattle.std.specs.FinMap.{get}
use Rattle.fx_item.specs.Item.{ChildKey, ChildValue, ObjectKey, PlainItem}
use Rattle.fx_item.specs.Look.{ItemMap}
use Rattle.fx_item.specs.Overlay.{AtKey, Said, ValueEntry, entry_in, says}
use Rattle.fx_item.specs.declared.lock.LockKey.{LockKey}
use Rattle.fx_plain.specs.Node.{Node}
use Rattle.fx_plain.specs.Table.{create, mkdir, place, walk}
use Rattle.fx_plain.specs.Tree.{Tree}
use Rattle.fx_plain.specs.declared.kind.Kind.{Kind}
use Rattle.fx_plain.specs.declared.kind.Kind.TheVariants.{Dir, File}
use Rattle.fx_plain.specs.declared.path.TheConstants.{MAX_NAMES}
use Rattle.fx_plain.specs.declared.step.Refusal.{Refusal}
use Rattle.fx_plain.specs.declared.step.Refusal.TheVariants.{Exists, NotVolume}
use Rattle.fx_namespace.specs.Commits.{IsNextNode, new_value}
use Rattle.fx_namespace.specs.Nodes.{NodeId, kind_at, node_at, root_node}
use Rattle.fx_namespace.proofs.Commits.{free_entry, root_way}
use Rattle.fx_namespace.proofs.Walks.{root_is, root_not, same_node}
use Rattle.fx_contents.specs.Points.{Points, named, value_under}
use Rattle.fx_contents.specs.Standing.{StandForTree, holdings_of}
use Rattle.fx_dir.specs.Walk.{EndsAfter, EndsInTree, GoesThrough, kind_in_tree}
use Rattle.fx_dir.specs.declared.walk.WalkEnd.{WalkEnd}
use Rattle.fx_dir.specs.declared.walk.WalkEnd.TheVariants.{Node as AtNode, Missing, Stopped}
use Rattle.fx_steps.specs.Rows.{with_basic}
use Rattle.fx_steps.specs.declared.refusal.StepRefusal.TheVariants as refusals
use Rattle.fx_tree.specs.Planned.{IsLastStep, MeetsWalk, SaysNextNode, next_node}
use Rattle.fx_tree.specs.Plans.{PlansNewNode}
use Rattle.fx_tree.specs.Saying.{SaysNewNode}
use Rattle.fx_tree.proofs.Pairs.{first_here, neither, second_here}
use Rattle.fx_tree.proofs.Ways.{same_at}

-- ---- what items say

abbrev pub entry_item : NodeId → List ℕ → NodeId → PlainItem
entry_item parent name node = record { key = ChildKey parent.store parent.id name; value = ChildValue node.store node.id }

abbrev pub object_item : NodeId → Kind → PlainItem
object_item node kind = record { key = ObjectKey node.store node.id; value = new_value kind }

new_entry : (node : NodeId) (kind : Kind) → entry_in (ObjectKey node.store node.id) (new_value kind) (AtKey (ObjectKey node.store node.id)) ≡ Some (ValueEntry (new_value kind))
new_entry node Dir = refl
new_entry node File = refl

new_said : (parent : NodeId) (name : List ℕ) (node : NodeId) (kind : Kind) → SaysNewNode (says (entry_item parent name node ∷ object_item node kind ∷ [])) parent name node (new_value kind)
new_said parent name node kind = record {
  object = second_here (entry_item parent name node) (object_item node kind) refl refl (λ q. cc q) ∙ ap Some (new_entry node kind);
  entry = first_here (entry_item parent name node) (object_item node kind) refl;
  others = λ p x y. neither (entry_item parent name node) (object_item node kind) p refl refl y x;
}

pub next_said : (m : ItemMap) (path : List (List ℕ)) (kind : Kind) (id store : ℕ) (said : Said) (a b : PlainItem) (parent node : NodeId) (name : List ℕ) → IsLastStep m path parent name
    → node ≡ next_node parent id store → a ≡ entry_item parent name node → b ≡ object_item node kind → said ≡ says (a ∷ b ∷ []) → SaysNextNode m path kind id store said
next_said m path kind id store said a b parent node name last node_is a_is b_is said_is = record {
  parent = parent;
  name = name;
  last = last;
  says = subst (λ s. SaysNewNode s parent name (next_node parent id store) (new_value kind)) (sym (said_is ∙ ap (λ x. says (x ∷ b ∷ [])) a_is ∙ ap (λ x. says (entry_item parent name node ∷ x ∷ [])) b_is))
      (subst (λ n. SaysNewNode (says (entry_item parent name node ∷ object_item node kind ∷ [])) parent name n (new_value kind)) node_is (new_said parent name node kind));
}

-- ---- the ends of walks

some_node : (o : Option Node) (kind : Kind) → option_map kind_in_tree o ≡ Some kind → (x : Node) × (o ≡ Some x)
some_node None kind e = absurd (let q : None ≡ Some kind = e in cc)
some_node (Some x) kind e = (x, refl)

pub node_met : {m : Points} {f : ℕ → List ℕ} {t : Tree} {path : List (List ℕ)} {dirs : List LockKey} {end : WalkEnd} (node : NodeId) (kind : Kind) → StandForTree m f t → MeetsWalk m path dirs end → end ≡ AtNode node kind
    → (walk t path ≡ None) × ((x : Node) × (get t path ≡ Some x))
node_met {f = f} {t = t} {path = path} node kind s w e =
    let i = subst (EndsInTree t path) e (w.tree f t s) in
    (i.0, some_node (get t path) kind i.1)

pub stop_met : {m : Points} {f : ℕ → List ℕ} {t : Tree} {path : List (List ℕ)} {dirs : List LockKey} {end : WalkEnd} (refusal : Refusal) → StandForTree m f t → MeetsWalk m path dirs end → end ≡ Stopped refusal → walk t path ≡ Some refusal
stop_met {f = f} {t = t} {path = path} refusal s w e = subst (EndsInTree t path) e (w.tree f t s)

pub missing_met : {m : Points} {f : ℕ → List ℕ} {t : Tree} {path : List (List ℕ)} {dirs : List LockKey} {end : WalkEnd} → StandForTree m f t → MeetsWalk m path dirs end → end ≡ Missing → (walk t path ≡ None) × (get t path ≡ None)
missing_met {f = f} {t = t} {path = path} s w e = subst (EndsInTree t path) e (w.tree f t s)

-- ---- refusals of new nodes

place_there : (t : Tree) (path : List (List ℕ)) (x y : Node) → walk t path ≡ None → get t path ≡ Some y → with_basic (place t path x (walk t path) (get t path)).0 ≡ Err (refusals.Basic Exists)
place_there t path x y way there = ap (λ w. with_basic (place t path x w (get t path)).0) way ∙ ap (λ o. with_basic (place t path x None o).0) there

place_stopped : (t : Tree) (path : List (List ℕ)) (x : Node) (refusal : Refusal) → walk t path ≡ Some refusal → with_basic (place t path x (walk t path) (get t path)).0 ≡ Err (refusals.Basic refusal)
place_stopped t path x refusal way = ap (λ w. with_basic (place t path x w (get t path)).0) way

pub mkdir_there : (t : Tree) (path : List (List ℕ)) → (walk t path ≡ None) × ((x : Node) × (get t path ≡ Some x)) → with_basic (mkdir t path).0 ≡ Err (refusals.Basic Exists)
mkdir_there t [] i = refl
mkdir_there t (x ∷ names) i = place_there t (x ∷ names) _ i.1.0 i.0 i.1.1

pub mkdir_stopped : (t : Tree) (path : List (List ℕ)) (refusal : Refusal) → walk t path ≡ Some refusal → with_basic (mkdir t path).0 ≡ Err (refusals.Basic refusal)
mkdir_stopped t [] refusal way = absurd (cc way)
mkdir_stopped t (x ∷ names) refusal way = place_stopped t (x ∷ names) _ refusal way

pub create_there : (t : Tree) (path : List (List ℕ)) → 2 ≤ length path → (walk t path ≡ None) × ((x : Node) × (get t path ≡ Some x)) → with_basic (create t path).0 ≡ Err (refusals.Basic Exists)
create_there t [] two i = absurd (omega arith)
create_there t (x ∷ []) two i = absurd (omega arith)
create_there t (x ∷ y ∷ names) two i = place_there t (x ∷ y ∷ names) _ i.1.0 i.0 i.1.1

pub create_stopped : (t : Tree) (path : List (List ℕ)) (refusal : Refusal) → 2 ≤ length path → walk t path ≡ Some refusal → with_basic (create t path).0 ≡ Err (refusals.Basic refusal)
create_stopped t [] refusal two way = absurd (omega arith)
create_stopped t (x ∷ []) refusal two way = absurd (omega arith)
create_stopped t (x ∷ y ∷ names) refusal two way = place_stopped t (x ∷ y ∷ names) _ refusal way

pub create_short : (t : Tree) (path : List (List ℕ)) → length path < 2 → with_basic (create t path).0 ≡ Err (refusals.Basic NotVolume)
create_short t [] two = refl
create_short t (x ∷ []) two = refl
create_short t (x ∷ y ∷ names) two = absurd (omega arith)

-- ---- the plan of a new node

next_by : (parent : NodeId) (kind : Kind) (id store : ℕ) → (parent ≡ root_node → kind ≡ Dir) → (parent ≡ root_node) ⊎ (parent ≢ root_node) → IsNextNode parent (next_node parent id store) kind id store
next_by parent kind id store dir (inl top) = inl (top, dir top, ap (λ b. cond b (record { store = store; id = 0 }) (record { store = parent.store; id = id })) (root_is parent top))
next_by parent kind id store dir (inr inner) = inr (inner, ap (λ b. cond b (record { store = store; id = 0 }) (record { store = parent.store; id = id })) (root_not parent inner))

pub new_planned : (m : Points) (f : ℕ → List ℕ) (t : Tree) (path : List (List ℕ)) (dirs : List LockKey) (end : WalkEnd) (kind : Kind) (id store : ℕ) (said : Said) → length path ≤ MAX_NAMES → (kind ≡ Dir) ⊎ (2 ≤ length path)
    → MeetsWalk m path dirs end → end ≡ Missing → ((n : ItemMap) → GoesThrough n path dirs → (path ≡ []) ⊎ SaysNextNode n path kind id store said) → StandForTree m f t → PlansNewNode m id store path kind said
new_planned m f t path dirs end kind id store said few fits w e made s = by (made (value_under m) w.through)
  where
    none : (walk t path ≡ None) × (get t path ≡ None)
    none = missing_met s w e

    missing : EndsAfter (value_under m) path (length dirs) Missing
    missing = subst (EndsAfter (value_under m) path (length dirs)) e w.ends_after

    by : (path ≡ []) ⊎ SaysNextNode (value_under m) path kind id store said → PlansNewNode m id store path kind said
    by (inl top) = absurd (let q : Some Dir ≡ None = sym (ap (kind_at (value_under m)) top) ∙ missing.1 in cc q)
    by (inr d) =
        let way : node_at (named m) d.last.above ≡ Some d.parent = same_at m d.last.above ∙ d.last.way in
        let count : length path ≡ length d.last.above + 1 = ap length d.last.path_is ∙ length-append d.last.above (d.name ∷ []) in
        record {
          above = d.last.above;
          name = d.name;
          parent = d.parent;
          node = next_node d.parent id store;
          path_is = d.last.path_is;
          way = d.last.way;
          directory = d.last.directory;
          free = free_entry (named m) (holdings_of m f s.attributes) t s.tree_is s.stands d.last.above d.name d.parent way (ap (get t) (sym d.last.path_is) ∙ none.1);
          depth = omega (arith, count, few);
          next = next_by d.parent kind id store (λ top. elim fits [
            | inl dir ↦ dir
            | inr two ↦ absurd (let nothing : length d.last.above ≡ 0 = ap length (root_way (named m) s.stands d.last.above d.parent way top) in omega arith)
          ]) (same_node d.parent root_node);
          says = d.says;
        }
