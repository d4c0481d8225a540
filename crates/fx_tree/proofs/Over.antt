-- A plan over one look is a plan over every other that agrees with it at the nodes of its keys.
use Rattle.std.proofs.Common.{◌≡◌, ◌⊎◌, inl, inr, ℕ, List, [], ◌∷◌, ◌++◌, length, length-append, take, refl, sym, ap, ◌∙◌, subst, append_assoc, arith, Bool, true, false, cond}
use Rattle.std.specs.Prelude.{Option, Some, None, option_and_then}
use Rattle.std.proofs.lemmas.List.{append-nil}
use Rattle.std.proofs.lemmas.Option.{option_and_then_some}
use Rattle.fx_item.specs.Item.{ChildKey, GraveKey, ObjectKey, PlainValue}
use Rattle.fx_item.specs.Overlay.{Said}
use Rattle.fx_item.specs.declared.lock.Mode.TheVariants.{Share, Change}
use Rattle.fx_plain.specs.Tree.{Tree}
use Rattle.fx_plain.specs.declared.kind.Kind.{Kind}
use Rattle.fx_plain.specs.declared.kind.Kind.TheVariants.{Dir, File}
use Rattle.fx_namespace.specs.Nodes.{NodeId, child, is_root, kind_of, led_to, node_at, node_from, object_kind, root_node, told_kind}
use Rattle.fx_namespace.proofs.Walks.{more_step}
use Rattle.fx_contents.specs.Points.{Points, named, text_in, unless_waiting, value_under}
use Rattle.fx_contents.specs.Standing.{StandForTree}
use Rattle.fx_steps.specs.declared.step.TreeStep.{TreeStep}
use Rattle.fx_steps.specs.declared.step.TreeStep.TheVariants.{Rename}
use Rattle.fx_tree.specs.Keys.{ChangesAbove, ChangesAt, IsStepKey, KeepsKeys, KeyAbove, KeyAt, KeyBelow, KeyOfWalk, SameAtNode, Walks}
use Rattle.fx_tree.specs.Plans.{IsNamesPlan, OfCreate, OfDelAttr, OfMkdir, OfRemove, OfRename, OfSetAttr, PlansBurial, PlansMark, PlansMove, PlansNewNode, PlansUnmark}
use Rattle.fx_tree.proofs.InTree.{parent_dir}
use Rattle.fx_tree.proofs.Ways.{same_at, same_kind}

abbrev Path : Type 0
Path = List (List ℕ)

taken : (before rest : Path) → take (length before) (before ++ rest) ≡ before
taken [] [] = refl
taken [] (x ∷ rest) = refl
taken (x ∷ before) rest = ap (λ z. x ∷ z) (taken before rest)

shown_told : (grave object : Option PlainValue) (k : Kind) → told_kind (unless_waiting grave object) ≡ Some k → told_kind object ≡ Some k
shown_told None object k e = e
shown_told (Some g) object k e = absurd (let q : None ≡ Some k = e in cc)

told_by : (b : Bool) (grave object : Option PlainValue) (k : Kind) → cond b (Some Dir) (told_kind (unless_waiting grave object)) ≡ Some k → cond b (Some Dir) (told_kind object) ≡ Some k
told_by true grave object k e = e
told_by false grave object k e = shown_told grave object k e

-- a kind that the names see stands
seen_kind : (m : Points) (y : NodeId) (k : Kind) → kind_of (named m) y ≡ Some k → kind_of (value_under m) y ≡ Some k
seen_kind m y k e = told_by (is_root y) (value_under m (GraveKey y.store y.id)) (value_under m (ObjectKey y.store y.id)) k e

module _ {m n : Points} {f g : ℕ → List ℕ} {t u : Tree} {step : TreeStep} (s : StandForTree m f t) (r : StandForTree n g u) (keeps : KeepsKeys m n step) where
  -- ---- at one node

  same_child : (y : NodeId) → SameAtNode y m n → (x : List ℕ) → child (value_under n) y x ≡ child (value_under m) y x
  same_child y at x = ap led_to (at.entry x)

  same_kind_at : (y : NodeId) → SameAtNode y m n → kind_of (value_under n) y ≡ kind_of (value_under m) y
  same_kind_at y at = ap (λ e. cond (is_root y) (Some Dir) (told_kind e)) at.object

  same_entry : (y : NodeId) → SameAtNode y m n → (x : List ℕ) → value_under n (ChildKey y.store y.id x) ≡ value_under m (ChildKey y.store y.id x)
  same_entry y at x = at.entry x

  dir_of : (before : Path) (y : NodeId) (x : List ℕ) (z : NodeId) → node_at (value_under m) before ≡ Some y → child (value_under m) y x ≡ Some z → kind_of (value_under m) y ≡ Some Dir
  dir_of before y x z way led = sym (same_kind s before y (same_at m before ∙ way)) ∙ parent_dir s.stands s.tree_is y x z led

  -- ---- along a path that the step walks

  module _ (path : Path) (walks : Walks step path) where
    key_of : (before : Path) (x : List ℕ) (rest : Path) (y z : NodeId) → path ≡ before ++ x ∷ rest → node_at (value_under m) before ≡ Some y → child (value_under m) y x ≡ Some z → SameAtNode y m n
    key_of before x rest y z is way led = keeps.same y Share (KeyOfWalk path walks (record {
      count = length before;
      before = omega (arith, ap length is, length-append before (x ∷ rest));
      way = ap (λ p. node_at (value_under m) (take (length before) p)) is ∙ ap (node_at (value_under m)) (taken before (x ∷ rest)) ∙ way;
      directory = dir_of before y x z way led;
    }) refl)

    along : (before rest more : Path) (y b : NodeId) → path ≡ (before ++ rest) ++ more → node_at (value_under m) before ≡ Some y → node_from (value_under m) y rest ≡ Some b → node_from (value_under n) y rest ≡ Some b
    along before [] more y b is way e = e
    along before (x ∷ rest) more y b is way e = option_and_then_some (λ w. node_from (value_under m) w rest) (child (value_under m) y x) b e (λ w c d.
        ap (option_and_then (λ v. node_from (value_under n) v rest)) (same_child y (key_of before x (rest ++ more) y w (is ∙ append_assoc before (x ∷ rest) more) way c) x ∙ c)
        ∙ along (before ++ x ∷ []) rest more w b (is ∙ ap (λ z. z ++ more) (sym (append_assoc before (x ∷ []) rest))) (more_step (value_under m) before y x w way c) d)

    -- the front of the path leads where it led
    front : (first more : Path) (b : NodeId) → path ≡ first ++ more → node_at (value_under m) first ≡ Some b → node_at (value_under n) first ≡ Some b
    front first more b is way = along [] first more root_node b is refl way

    whole : (b : NodeId) → node_at (value_under m) path ≡ Some b → node_at (value_under n) path ≡ Some b
    whole b way = front path [] b (sym (append-nil path)) way

  above_key : (above : Path) (x : List ℕ) (y : NodeId) → ChangesAbove step (above ++ x ∷ []) → node_at (value_under m) above ≡ Some y → SameAtNode y m n
  above_key above x y changes way = keeps.same y Change (KeyAbove above x changes way refl)

  at_key : (path : Path) (y : NodeId) → ChangesAt step path → node_at (value_under m) path ≡ Some y → SameAtNode y m n
  at_key path y changes way = keeps.same y Change (KeyAt path changes way refl)

  -- ---- the plans

  new_over : (id store : ℕ) (path : Path) (kind : Kind) (said : Said) → Walks step path → ((above : Path) (x : List ℕ) → path ≡ above ++ x ∷ [] → ChangesAbove step (above ++ x ∷ []))
      → PlansNewNode m id store path kind said → PlansNewNode n id store path kind said
  new_over id store path kind said walks changes d =
      let at = above_key d.above d.name d.parent (changes d.above d.name d.path_is) d.way in
      record {
        above = d.above;
        name = d.name;
        parent = d.parent;
        node = d.node;
        path_is = d.path_is;
        way = front path walks d.above (d.name ∷ []) d.parent d.path_is d.way;
        directory = same_kind_at d.parent at ∙ d.directory;
        free = same_entry d.parent at d.name ∙ d.free;
        depth = d.depth;
        next = d.next;
        says = d.says;
      }

  burial_over : (path : Path) (said : Said) → Walks step path → ((above : Path) (x : List ℕ) → path ≡ above ++ x ∷ [] → ChangesAbove step (above ++ x ∷ [])) → ChangesAt step path
      → PlansBurial m path said → PlansBurial n path said
  burial_over path said walks changes here d =
      let above_at = above_key d.above d.name d.parent (changes d.above d.name d.path_is) d.way in
      let at = at_key path d.node here (ap (node_at (value_under m)) d.path_is ∙ more_step (value_under m) d.above d.parent d.name d.node d.way (ap led_to d.entry)) in
      record {
        above = d.above;
        name = d.name;
        parent = d.parent;
        node = d.node;
        path_is = d.path_is;
        way = front path walks d.above (d.name ∷ []) d.parent d.path_is d.way;
        entry = same_entry d.parent above_at d.name ∙ d.entry;
        childless = λ x. same_entry d.node at x ∙ d.childless x;
        says = d.says;
      }

  mark_over : (path : Path) (name : List ℕ) (text : Option (List ℕ)) (said : Said) → Walks step path → PlansMark m path name text said → PlansMark n path name text said
  mark_over path name text said walks d = record { node = d.node; below_root = d.below_root; way = whole path walks d.node d.way; says = d.says }

  unmark_over : (path : Path) (name : List ℕ) (said : Said) → Walks step path → ChangesAt step path → PlansUnmark m path name said → PlansUnmark n path name said
  unmark_over path name said walks here d = record {
    mark = record { node = d.mark.node; below_root = d.mark.below_root; way = whole path walks d.mark.node d.mark.way; says = d.mark.says };
    text = d.text;
    there = ap text_in ((at_key path d.mark.node here d.mark.way).attribute name) ∙ d.there;
  }

  -- below what moves the walks are the same
  module _ (from to : Path) (is : step ≡ Rename from to) where
    below_key : (rest : Path) (y : NodeId) → node_at (value_under m) (from ++ rest) ≡ Some y → kind_of (value_under m) y ≡ Some Dir → IsStepKey (value_under m) step y Share
    below_key rest y way dir = KeyBelow from to rest is way dir refl

    back : (before rest : Path) (y z : NodeId) → node_at (value_under m) (from ++ before) ≡ Some y → object_kind (value_under n) y ≡ object_kind (value_under m) y
        → node_from (value_under n) y rest ≡ Some z → node_from (value_under m) y rest ≡ Some z
    back before [] y z way kind e = e
    back before (x ∷ rest) y z way kind e = option_and_then_some (λ w. node_from (value_under n) w rest) (child (value_under n) y x) z e (λ w c d.
        let dir : kind_of (value_under m) y ≡ Some Dir = ap (cond (is_root y) (Some Dir)) (sym kind) ∙ seen_kind n y Dir (parent_dir r.stands r.tree_is y x w c) in
        let key = below_key before y way dir in
        let led : child (value_under m) y x ≡ Some w = sym (same_child y (keeps.same y Share key) x) ∙ c in
        ap (option_and_then (λ v. node_from (value_under m) v rest)) led
        ∙ back (before ++ x ∷ []) rest w z (ap (node_at (value_under m)) (sym (append_assoc from before (x ∷ []))) ∙ more_step (value_under m) (from ++ before) y x w way led)
        (keeps.kinds y Share x w key led) d)

    move_over : (said : Said) → Walks step from → Walks step to → ((above : Path) (x : List ℕ) → (from ≡ above ++ x ∷ []) ⊎ (to ≡ above ++ x ∷ []) → ChangesAbove step (above ++ x ∷ []))
        → PlansMove m from to said → PlansMove n from to said
    move_over said walks walks_to changes d =
        let key = KeyAbove d.above d.name (changes d.above d.name (inl d.from_is)) d.way refl in
        let at = keeps.same d.parent Change key in
        let at_to = above_key d.above_to d.name_to d.parent_to (changes d.above_to d.name_to (inr d.to_is)) d.way_to in
        let led = ap led_to d.entry in
        record {
          above = d.above;
          name = d.name;
          parent = d.parent;
          above_to = d.above_to;
          name_to = d.name_to;
          parent_to = d.parent_to;
          node = d.node;
          from_is = d.from_is;
          to_is = d.to_is;
          in_volume = d.in_volume;
          not_into = d.not_into;
          way = front from walks d.above (d.name ∷ []) d.parent d.from_is d.way;
          entry = same_entry d.parent at d.name ∙ d.entry;
          way_to = front to walks_to d.above_to (d.name_to ∷ []) d.parent_to d.to_is d.way_to;
          directory = same_kind_at d.parent_to at_to ∙ d.directory;
          free = same_entry d.parent_to at_to d.name_to ∙ d.free;
          shallow = λ rest y e. d.shallow rest y (back [] rest d.node y
              (ap (node_at (value_under m)) (append-nil from ∙ d.from_is) ∙ more_step (value_under m) d.above d.parent d.name d.node d.way led)
              (keeps.kinds d.parent Change d.name d.node key led) e);
          says = d.says;
        }

pub plan_over : (m n : Points) (f g : ℕ → List ℕ) (t u : Tree) (id store : ℕ) (step : TreeStep) (said : Said) → StandForTree m f t → StandForTree n g u → KeepsKeys m n step
    → IsNamesPlan m id store step said → IsNamesPlan n id store step said
plan_over m n f g t u id store step said s r keeps (OfMkdir path is d) = OfMkdir path is
    (new_over s r keeps id store path Dir said (subst (λ z. Walks z path) (sym is) refl) (λ above x e. subst (λ z. ChangesAbove z (above ++ x ∷ [])) (sym is) (sym e)) d)
plan_over m n f g t u id store step said s r keeps (OfCreate path is d) = OfCreate path is
    (new_over s r keeps id store path File said (subst (λ z. Walks z path) (sym is) refl) (λ above x e. subst (λ z. ChangesAbove z (above ++ x ∷ [])) (sym is) (sym e)) d)
plan_over m n f g t u id store step said s r keeps (OfRemove path is d) = OfRemove path is
    (burial_over s r keeps path said (subst (λ z. Walks z path) (sym is) refl) (λ above x e. subst (λ z. ChangesAbove z (above ++ x ∷ [])) (sym is) (sym e)) (subst (λ z. ChangesAt z path) (sym is) refl) d)
plan_over m n f g t u id store step said s r keeps (OfSetAttr path name value is d) = OfSetAttr path name value is
    (mark_over s r keeps path name (Some value) said (subst (λ z. Walks z path) (sym is) refl) d)
plan_over m n f g t u id store step said s r keeps (OfDelAttr path name is d) = OfDelAttr path name is
    (unmark_over s r keeps path name said (subst (λ z. Walks z path) (sym is) refl) (subst (λ z. ChangesAt z path) (sym is) refl) d)
plan_over m n f g t u id store step said s r keeps (OfRename from to is d) = OfRename from to is
    (move_over s r keeps from to is said (subst (λ z. Walks z from) (sym is) (inl refl)) (subst (λ z. Walks z to) (sym is) (inr refl))
    (λ above x e. subst (λ z. ChangesAbove z (above ++ x ∷ [])) (sym is) (elim e [ inl a ↦ inl (sym a) | inr a ↦ inr (sym a) ])) d)
