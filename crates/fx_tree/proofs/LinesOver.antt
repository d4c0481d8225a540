-- The plans of a line over one look are plans over every other that agrees at the nodes of its keys.
use Rattle.std.proofs.Common.{◌≡◌, ◌⊎◌, inl, inr, ℕ, ◌+◌, ◌≤◌, List, [], ◌∷◌, ◌++◌, refl, sym, ap, ◌∙◌, subst, arith}
use Rattle.std.specs.Prelude.{Option, Some, None}
use Rattle.std.proofs.lemmas.Bool.{cases_lt}
use Rattle.fx_item.specs.Item.{PlainKey, ObjectKey, AttributeKey, ChildKey, ChildValue, GraveKey, FileValue}
use Rattle.fx_item.specs.Look.{key_id, key_store, value_of_entry}
use Rattle.fx_item.specs.Overlay.{AtFileBlock, AtKey, Entry, Said, ValueEntry}
use Rattle.fx_item.specs.declared.lock.Mode.{Mode}
use Rattle.fx_item.specs.declared.lock.Mode.TheVariants.{Change}
use Rattle.fx_plain.specs.Tree.{Tree}
use Rattle.fx_plain.specs.declared.kind.Kind.{Kind}
use Rattle.fx_plain.specs.declared.kind.Kind.TheVariants.{Dir, File}
use Rattle.fx_namespace.specs.Commits.{IsBelow}
use Rattle.fx_namespace.specs.Nodes.{NodeId, child, led_to, object_kind, told_kind}
use Rattle.fx_contents.specs.Points.{Points, entry_after, points_after, value_under}
use Rattle.fx_contents.specs.Standing.{AreWithin, StandForTree}
use Rattle.fx_contents.proofs.Amiss.{none_at}
use Rattle.fx_steps.specs.Rows.{do_tree_step}
use Rattle.fx_steps.specs.declared.step.TreeStep.{TreeStep}
use Rattle.fx_tree.specs.Keys.{ChangesAbove, IsLineKey, IsOldNode, IsStepKey, KeepsKeys, KeepsLineKeys, KeyAbove, SameAtNode}
use Rattle.fx_tree.specs.Plans.{AreDoneBy, AreNamesPlans, IsNamesPlan, OfCreate, OfDelAttr, OfMkdir, OfRemove, OfRename, OfSetAttr, PlansMark, PlansNewNode, nodes_made}
use Rattle.fx_tree.proofs.Lines.{line_does}
use Rattle.fx_tree.proofs.Numbers.{is_child, plan_below, point_not}
use Rattle.fx_tree.proofs.Over.{plan_over}
use Rattle.fx_tree.proofs.Steps.{plan_does}

-- ---- where an entry of a plan's items leads

-- the node's Object is said, or it is a child of a node of the step's keys
abbrev Comes : Points → TreeStep → Said → NodeId → Type 0
Comes m step said y = ((e : Option Entry) × (said (AtKey (ObjectKey y.store y.id)) ≡ Some e))
    ⊎ ((b : NodeId) × (z : List ℕ) × (mode : Mode) × IsStepKey (value_under m) step b mode × (child (value_under m) b z ≡ Some y))

abbrev Leads : Said → NodeId → List ℕ → NodeId → Type 0
Leads said a x y = (e : Option Entry) × (said (AtKey (ChildKey a.store a.id x)) ≡ Some e) × (led_to (value_of_entry e) ≡ Some y)

-- what is said of another point than a plan's is nothing
no_lead : (said : Said) (a : NodeId) (x : List ℕ) (y : NodeId) → Leads said a x y → said (AtKey (ChildKey a.store a.id x)) ≡ None → ⊥
no_lead said a x y l none = let q : Some l.0 ≡ None = sym l.1 ∙ none in cc q

gone_lead : (said : Said) (a : NodeId) (x : List ℕ) (y : NodeId) (k : PlainKey) → Leads said a x y → ChildKey a.store a.id x ≡ k → said (AtKey k) ≡ Some None → ⊥
gone_lead said a x y k l is gone =
    let q : Some l.0 ≡ Some None = sym l.1 ∙ ap (λ z. said (AtKey z)) is ∙ gone in
    let none : l.0 ≡ None = cc q in
    let w : None ≡ Some y = sym (ap (λ e. led_to (value_of_entry e)) none) ∙ l.2 in cc w

to_node : (said : Said) (a : NodeId) (x : List ℕ) (y node : NodeId) (k : PlainKey) → Leads said a x y → ChildKey a.store a.id x ≡ k → said (AtKey k) ≡ Some (Some (ValueEntry (ChildValue node.store node.id))) → node ≡ y
to_node said a x y node k l is told =
    let q : Some l.0 ≡ Some (Some (ValueEntry (ChildValue node.store node.id))) = sym l.1 ∙ ap (λ z. said (AtKey z)) is ∙ told in
    let v : l.0 ≡ Some (ValueEntry (ChildValue node.store node.id)) = cc q in
    let w : Some node ≡ Some y = sym (ap (λ e. led_to (value_of_entry e)) v) ∙ l.2 in cc w

module _ (m : Points) (step : TreeStep) (said : Said) (a : NodeId) (x : List ℕ) (y : NodeId) (l : Leads said a x y) where
  new_comes : (id store : ℕ) (path : List (List ℕ)) (kind : Kind) → PlansNewNode m id store path kind said → Comes m step said y
  new_comes id store path kind d = elim (is_child (ChildKey a.store a.id x) d.parent d.name) [
    | inl is ↦ inl (_, ap (λ (z : NodeId). said (AtKey (ObjectKey z.store z.id))) (sym (to_node said a x y d.node _ l is d.says.entry)) ∙ d.says.object)
    | inr ne ↦ absurd (no_lead said a x y l (d.says.others _ (λ q. cc q) (point_not _ _ ne)))
  ]

  mark_comes : (path : List (List ℕ)) (name : List ℕ) (text : Option (List ℕ)) → PlansMark m path name text said → Comes m step said y
  mark_comes path name text d = absurd (no_lead said a x y l (d.says.others _ (λ q. cc q)))

  pub comes : (id store : ℕ) → IsNamesPlan m id store step said → Comes m step said y
  comes id store (OfMkdir path is d) = new_comes id store path Dir d
  comes id store (OfCreate path is d) = new_comes id store path File d
  comes id store (OfRemove path is d) = elim (is_child (ChildKey a.store a.id x) d.parent d.name) [
    | inl same ↦ absurd (gone_lead said a x y _ l same d.says.gone)
    | inr ne ↦ absurd (no_lead said a x y l (d.says.others _ (point_not _ _ ne) (λ q. cc q)))
  ]
  comes id store (OfSetAttr path name value is d) = mark_comes path name (Some value) d
  comes id store (OfDelAttr path name is d) = mark_comes path name None d.mark
  comes id store (OfRename from to is d) = elim (is_child (ChildKey a.store a.id x) d.parent d.name) [
    | inl same ↦ absurd (gone_lead said a x y _ l same d.says.gone)
    | inr ne ↦ elim (is_child (ChildKey a.store a.id x) d.parent_to d.name_to) [
      | inl same ↦ inr (
        d.parent,
        d.name,
        Change,
        KeyAbove d.above d.name (subst (λ z. ChangesAbove z (d.above ++ d.name ∷ [])) (sym is) (inl (sym d.from_is))) d.way refl,
        ap led_to d.entry ∙ ap Some (to_node said a x y d.node _ l same d.says.entry),
      )
      | inr other ↦ absurd (no_lead said a x y l (d.says.others _ (point_not _ _ ne) (point_not _ _ other)))
    ]
  ]

-- ---- what agrees, agrees after a step

after_same : (old new : Option Entry) (o : Option (Option Entry)) → value_of_entry new ≡ value_of_entry old → value_of_entry (entry_after o new) ≡ value_of_entry (entry_after o old)
after_same old new None e = e
after_same old new (Some x) e = refl

block_same : (old new : Option Entry) (o : Option (Option Entry)) → new ≡ old → entry_after o new ≡ entry_after o old
block_same old new o e = ap (entry_after o) e

same_after : (m n : Points) (said : Said) (y : NodeId) → SameAtNode y m n → SameAtNode y (points_after m said) (points_after n said)
same_after m n said y s = record {
  object = after_same (m (AtKey (ObjectKey y.store y.id))) (n (AtKey (ObjectKey y.store y.id))) (said (AtKey (ObjectKey y.store y.id))) s.object;
  grave = after_same (m (AtKey (GraveKey y.store y.id))) (n (AtKey (GraveKey y.store y.id))) (said (AtKey (GraveKey y.store y.id))) s.grave;
  attribute = λ x. after_same (m (AtKey (AttributeKey y.store y.id x))) (n (AtKey (AttributeKey y.store y.id x))) (said (AtKey (AttributeKey y.store y.id x))) (s.attribute x);
  entry = λ x. after_same (m (AtKey (ChildKey y.store y.id x))) (n (AtKey (ChildKey y.store y.id x))) (said (AtKey (ChildKey y.store y.id x))) (s.entry x);
  block = λ k. block_same (m (AtFileBlock y.store y.id k)) (n (AtFileBlock y.store y.id k)) (said (AtFileBlock y.store y.id k)) (s.block k);
}

kind_after : (old new : Option Entry) (o : Option (Option Entry)) → told_kind (value_of_entry new) ≡ told_kind (value_of_entry old) → told_kind (value_of_entry (entry_after o new)) ≡ told_kind (value_of_entry (entry_after o old))
kind_after old new None e = e
kind_after old new (Some x) e = refl

kind_said : (old new : Option Entry) (o : Option (Option Entry)) (e : Option Entry) → o ≡ Some e → told_kind (value_of_entry (entry_after o new)) ≡ told_kind (value_of_entry (entry_after o old))
kind_said old new None e is = absurd (cc is)
kind_said old new (Some x) e is = refl

-- ---- the nodes of a line's keys

record Agree (P : NodeId → Type 0) (m n : Points) : Type 0 where
  same : (y : NodeId) → P y → SameAtNode y m n
  kinds : (y : NodeId) (x : List ℕ) (z : NodeId) → P y → child (value_under m) y x ≡ Some z → object_kind (value_under n) z ≡ object_kind (value_under m) z

module _ {P : NodeId → Type 0} {m n : Points} {step : TreeStep} (g : Agree P m n) (keys : (y : NodeId) (mode : Mode) → IsStepKey (value_under m) step y mode → P y) where
  keeps : KeepsKeys m n step
  keeps = record { same = λ y mode key. g.same y (keys y mode key); kinds = λ y mode x z key led. g.kinds y x z (keys y mode key) led }

  module _ {said : Said} (id store : ℕ) (d : IsNamesPlan m id store step said) where
    came : (y : NodeId) → Comes m step said y → object_kind (value_under (points_after n said)) y ≡ object_kind (value_under (points_after m said)) y
    came y (inl o) = kind_said (m (AtKey (ObjectKey y.store y.id))) (n (AtKey (ObjectKey y.store y.id))) (said (AtKey (ObjectKey y.store y.id))) o.0 o.1
    came y (inr b) = kind_after (m (AtKey (ObjectKey y.store y.id))) (n (AtKey (ObjectKey y.store y.id))) (said (AtKey (ObjectKey y.store y.id))) (g.kinds b.0 b.1 y (keys b.0 b.2 b.3) b.4)

    kinds_by : (y : NodeId) (x : List ℕ) (z : NodeId) → P y → (o : Option (Option Entry)) → said (AtKey (ChildKey y.store y.id x)) ≡ o → led_to (value_of_entry (entry_after o (m (AtKey (ChildKey y.store y.id x))))) ≡ Some z
        → object_kind (value_under (points_after n said)) z ≡ object_kind (value_under (points_after m said)) z
    kinds_by y x z p None e led = kind_after (m (AtKey (ObjectKey z.store z.id))) (n (AtKey (ObjectKey z.store z.id))) (said (AtKey (ObjectKey z.store z.id))) (g.kinds y x z p led)
    kinds_by y x z p (Some v) e led = came z (comes m step said y x z (v, e, led) id store d)

    agree_after : Agree P (points_after m said) (points_after n said)
    agree_after = record {
      same = λ y p. same_after m n said y (g.same y p);
      kinds = λ y x z p led. kinds_by y x z p (said (AtKey (ChildKey y.store y.id x))) refl led;
    }

over_all : (P : NodeId → Type 0) (steps : List TreeStep) (m n : Points) (f g : ℕ → List ℕ) (t u : Tree) (id store : ℕ) (saids : List Said) → StandForTree m f t → StandForTree n g u
    → IsBelow (value_under m) id store → IsBelow (value_under n) id store → Agree P m n → ((y : NodeId) → IsLineKey m steps saids y → P y)
    → AreNamesPlans m id store steps saids → AreNamesPlans n id store steps saids
over_all P [] m n f g t u id store saids s r b c a keys none = none
over_all P (step ∷ steps) m n f g t u id store saids s r b c a keys d =
    let said = d.0 in
    let more = d.1 in
    let all : (y : NodeId) → IsLineKey m (step ∷ steps) (said ∷ more) y → P y = subst (λ z. (y : NodeId) → IsLineKey m (step ∷ steps) z y → P y) d.2 keys in
    let here : (y : NodeId) (mode : Mode) → IsStepKey (value_under m) step y mode → P y = λ y mode key. all y (inl (mode, key)) in
    let plan = plan_over m n f g t u id store step said s r (keeps a here) d.3 in
    let done = plan_does m f t id store step said s b d.3 in
    let also = plan_does n g u id store step said r c plan in (
      said,
      more,
      d.2,
      plan,
      over_all P steps (points_after m said) (points_after n said) f g (do_tree_step t step).1 (do_tree_step u step).1 (nodes_made step + id) (nodes_made step + store) more done.stands also.stands
          (plan_below m id store step said b d.3) (plan_below n id store step said c plan) (agree_after a here id store d.3) (λ y key. all y (inr key)) d.4,
    )

-- ---- new nodes have nothing in either

abbrev IsNew : ℕ → ℕ → NodeId → Type 0
IsNew id store y = (id ≤ y.id) ⊎ (store ≤ y.store)

is_old : (id store : ℕ) (y : NodeId) → IsOldNode id store y ⊎ IsNew id store y
is_old id store y = elim (cases_lt y.id id) [
  | inl a ↦ elim (cases_lt y.store store) [ inl c ↦ inl (a, c) | inr c ↦ inr (inr c) ]
  | inr a ↦ inr (inl a)
]

none_new : (m : Points) (id store : ℕ) → IsBelow (value_under m) id store → (y : NodeId) (key : PlainKey) → key_id key ≡ y.id → key_store key ≡ y.store → IsNew id store y → value_under m key ≡ None
none_new m id store b y key i j new = none_at (value_under m key) (λ v e.
    let k = b.key key v e in
    elim new [ inl a ↦ omega (arith, i, k.0) | inr a ↦ omega (arith, j, k.1) ])

no_block : (m : Points) (id store : ℕ) → AreWithin m → IsBelow (value_under m) id store → (y : NodeId) → IsNew id store y → (k : ℕ) → m (AtFileBlock y.store y.id k) ≡ None
no_block m id store within b y new k = none_at (m (AtFileBlock y.store y.id k)) (λ e is.
    let x = within.extent y.store y.id k e is in
    let q : None ≡ Some (FileValue x.0) = sym (none_new m id store b y (ObjectKey y.store y.id) refl refl new) ∙ x.1 in cc q)

same_new : (m n : Points) (id store : ℕ) → AreWithin m → AreWithin n → IsBelow (value_under m) id store → IsBelow (value_under n) id store → (y : NodeId) → IsNew id store y → SameAtNode y m n
same_new m n id store v w b c y new = record {
  object = none_new n id store c y (ObjectKey y.store y.id) refl refl new ∙ sym (none_new m id store b y (ObjectKey y.store y.id) refl refl new);
  grave = none_new n id store c y (GraveKey y.store y.id) refl refl new ∙ sym (none_new m id store b y (GraveKey y.store y.id) refl refl new);
  attribute = λ x. none_new n id store c y (AttributeKey y.store y.id x) refl refl new ∙ sym (none_new m id store b y (AttributeKey y.store y.id x) refl refl new);
  entry = λ x. none_new n id store c y (ChildKey y.store y.id x) refl refl new ∙ sym (none_new m id store b y (ChildKey y.store y.id x) refl refl new);
  block = λ k. no_block n id store w c y new k ∙ sym (no_block m id store v b y new k);
}

agrees : (m n : Points) (id store : ℕ) (steps : List TreeStep) (saids : List Said) → AreWithin m → AreWithin n → IsBelow (value_under m) id store → IsBelow (value_under n) id store → KeepsLineKeys m n id store steps saids
    → Agree (IsLineKey m steps saids) m n
agrees m n id store steps saids v w b c k = record {
  same = λ y key. elim (is_old id store y) [ inl old ↦ k.same y key old | inr new ↦ same_new m n id store v w b c y new ];
  kinds = λ y x z key led. elim (is_old id store y) [
    | inl old ↦ k.kinds y x z key old led
    | inr new ↦ absurd (let q : None ≡ Some z = sym (ap led_to (none_new m id store b y (ChildKey y.store y.id x) refl refl new)) ∙ led in cc q)
  ];
}

pub line_over : (m n : Points) (f g : ℕ → List ℕ) (t u : Tree) (id store : ℕ) (steps : List TreeStep) (saids : List Said) → StandForTree m f t → StandForTree n g u
    → IsBelow (value_under m) id store → IsBelow (value_under n) id store → KeepsLineKeys m n id store steps saids
    → AreNamesPlans m id store steps saids → AreNamesPlans n id store steps saids
line_over m n f g t u id store steps saids s r b c k d = over_all (IsLineKey m steps saids) steps m n f g t u id store saids s r b c
    (agrees m n id store steps saids s.within r.within b c k) (λ y key. key) d

pub line_promises : (m n : Points) (f g : ℕ → List ℕ) (t u : Tree) (id store : ℕ) (steps : List TreeStep) (saids : List Said) → StandForTree m f t → StandForTree n g u
    → IsBelow (value_under m) id store → IsBelow (value_under n) id store → KeepsLineKeys m n id store steps saids
    → AreNamesPlans m id store steps saids → AreDoneBy n saids g u steps
line_promises m n f g t u id store steps saids s r b c k d = line_does n g u id store steps saids r c (line_over m n f g t u id store steps saids s r b c k d)
