-- The numbers that items use stay below the next ones, step by step.
use Rattle.std.proofs.Common.{◌≡◌, ◌≢◌, ◌⊎◌, inl, inr, ℕ, ◌+◌, ◌<◌, ◌≤◌, List, refl, sym, ap, ◌∙◌, subst, arith}
use Rattle.std.specs.Prelude.{Option, Some, None, option_map}
use Rattle.fx_item.specs.Item.{PlainKey, ObjectKey, AttributeKey, ExtentKey, ChildKey, GraveKey, AllocationKey, PlainValue, ChildValue, WaitingValue, AttributeValue}
use Rattle.fx_item.specs.Look.{key_id, key_store, value_id, value_store, value_of_entry}
use Rattle.fx_item.specs.Overlay.{AtKey, Entry, ValueEntry, BlockEntry, Said}
use Rattle.fx_plain.specs.declared.kind.Kind.{Kind}
use Rattle.fx_plain.specs.declared.kind.Kind.TheVariants.{Dir, File}
use Rattle.fx_namespace.specs.Commits.{IsBelow, new_value}
use Rattle.fx_namespace.specs.Nodes.{NodeId}
use Rattle.fx_namespace.proofs.Commits.{node_below}
use Rattle.fx_namespace.proofs.Items.{below_more}
use Rattle.fx_namespace.proofs.Walks.{node_path, same_name, same_node}
use Rattle.fx_contents.specs.Points.{Points, entry_after, points_after, value_under}
use Rattle.fx_steps.specs.declared.step.TreeStep.{TreeStep}
use Rattle.fx_tree.specs.Plans.{IsNamesPlan, OfCreate, OfDelAttr, OfMkdir, OfRemove, OfRename, OfSetAttr, PlansBurial, PlansMark, PlansMove, PlansNewNode, nodes_made}
use Rattle.fx_tree.specs.Saying.{text_entry}

-- the numbers of a key and a value are below these
abbrev AreLow : ℕ → ℕ → PlainKey → PlainValue → Type 0
AreLow id store key v = (key_id key < id) × (key_store key < store) × (value_id v < id) × (value_store v < store)

module _ (m : Points) (said : Said) (id store more_id more_store : ℕ) (b : IsBelow (value_under m) id store) (up_id : id ≤ more_id) (up_store : store ≤ more_store)
    (low : (key : PlainKey) (v : PlainValue) → said (AtKey key) ≡ Some (Some (ValueEntry v)) → AreLow more_id more_store key v) where
  by : (key : PlainKey) (v : PlainValue) (old : Option Entry) (o : Option (Option Entry)) → said (AtKey key) ≡ o → value_of_entry (entry_after o old) ≡ Some v
      → (value_of_entry old ≡ Some v → AreLow id store key v) → AreLow more_id more_store key v
  by key v old None e is was = let w = was is in (omega (arith, w.0), omega (arith, w.1), omega (arith, w.2), omega (arith, w.3))
  by key v old (Some None) e is was = absurd (let q : None ≡ Some v = is in cc q)
  by key v old (Some (Some (BlockEntry block sum))) e is was = absurd (let q : None ≡ Some v = is in cc q)
  by key v old (Some (Some (ValueEntry w))) e is was = let q : w ≡ v = cc is in low key v (e ∙ ap (λ z. Some (Some (ValueEntry z))) q)

  was : (key : PlainKey) (v : PlainValue) → value_under m key ≡ Some v → AreLow id store key v
  was key v e = let k = b.key key v e in let w = b.value key v e in (k.0, k.1, w.0, w.1)

  lows : (key : PlainKey) (v : PlainValue) → value_under (points_after m said) key ≡ Some v → AreLow more_id more_store key v
  lows (ObjectKey s i) v e = by (ObjectKey s i) v (m (AtKey (ObjectKey s i))) (said (AtKey (ObjectKey s i))) refl e (was (ObjectKey s i) v)
  lows (AttributeKey s i x) v e = by (AttributeKey s i x) v (m (AtKey (AttributeKey s i x))) (said (AtKey (AttributeKey s i x))) refl e (was (AttributeKey s i x) v)
  lows (ExtentKey s i start stop) v e = absurd (let q : None ≡ Some v = e in cc q)
  lows (ChildKey s i x) v e = by (ChildKey s i x) v (m (AtKey (ChildKey s i x))) (said (AtKey (ChildKey s i x))) refl e (was (ChildKey s i x) v)
  lows (GraveKey s i) v e = by (GraveKey s i) v (m (AtKey (GraveKey s i))) (said (AtKey (GraveKey s i))) refl e (was (GraveKey s i) v)
  lows (AllocationKey start stop) v e = absurd (let q : None ≡ Some v = e in cc q)

  pub below : IsBelow (value_under (points_after m said)) more_id more_store
  below = record {
    root_id = omega (arith, b.root_id);
    root_store = omega (arith, b.root_store);
    key = λ key v e. (let l = lows key v e in (l.0, l.1));
    value = λ key v e. (let l = lows key v e in (l.2, l.3));
  }

-- ---- which key it is

abbrev pub Is : PlainKey → PlainKey → Type 0
Is key k = (key ≡ k) ⊎ (key ≢ k)

node_is : (s i : ℕ) (y : NodeId) → ((s ≡ y.store) × (i ≡ y.id)) ⊎ ((s ≡ y.store) × (i ≡ y.id) → ⊥)
node_is s i y = elim (same_node (record { store = s; id = i }) y) [
  | inl e ↦ inl (ap (λ (z : NodeId). z.store) e, ap (λ (z : NodeId). z.id) e)
  | inr ne ↦ inr (λ p. ne (node_path (record { store = s; id = i }) y p.0 p.1))
]

is_object : (key : PlainKey) (y : NodeId) → Is key (ObjectKey y.store y.id)
is_object (ObjectKey s i) y = elim (node_is s i y) [ inl e ↦ inl (λ k. ObjectKey (e.0 k) (e.1 k)) | inr ne ↦ inr (λ q. ne (cc q, cc q)) ]
is_object (AttributeKey s i x) y = inr (λ q. cc q)
is_object (ExtentKey s i start stop) y = inr (λ q. cc q)
is_object (ChildKey s i x) y = inr (λ q. cc q)
is_object (GraveKey s i) y = inr (λ q. cc q)
is_object (AllocationKey start stop) y = inr (λ q. cc q)

is_grave : (key : PlainKey) (y : NodeId) → Is key (GraveKey y.store y.id)
is_grave (ObjectKey s i) y = inr (λ q. cc q)
is_grave (AttributeKey s i x) y = inr (λ q. cc q)
is_grave (ExtentKey s i start stop) y = inr (λ q. cc q)
is_grave (ChildKey s i x) y = inr (λ q. cc q)
is_grave (GraveKey s i) y = elim (node_is s i y) [ inl e ↦ inl (λ k. GraveKey (e.0 k) (e.1 k)) | inr ne ↦ inr (λ q. ne (cc q, cc q)) ]
is_grave (AllocationKey start stop) y = inr (λ q. cc q)

pub is_child : (key : PlainKey) (y : NodeId) (name : List ℕ) → Is key (ChildKey y.store y.id name)
is_child (ObjectKey s i) y name = inr (λ q. cc q)
is_child (AttributeKey s i x) y name = inr (λ q. cc q)
is_child (ExtentKey s i start stop) y name = inr (λ q. cc q)
is_child (ChildKey s i x) y name = elim (node_is s i y) [
  | inl e ↦ elim (same_name x name) [ inl d ↦ inl (λ k. ChildKey (e.0 k) (e.1 k) (d k)) | inr d ↦ inr (λ q. d (cc q)) ]
  | inr ne ↦ inr (λ q. ne (cc q, cc q))
]
is_child (GraveKey s i) y name = inr (λ q. cc q)
is_child (AllocationKey start stop) y name = inr (λ q. cc q)

pub is_attribute : (key : PlainKey) (y : NodeId) (name : List ℕ) → Is key (AttributeKey y.store y.id name)
is_attribute (ObjectKey s i) y name = inr (λ q. cc q)
is_attribute (AttributeKey s i x) y name = elim (node_is s i y) [
  | inl e ↦ elim (same_name x name) [ inl d ↦ inl (λ k. AttributeKey (e.0 k) (e.1 k) (d k)) | inr d ↦ inr (λ q. d (cc q)) ]
  | inr ne ↦ inr (λ q. ne (cc q, cc q))
]
is_attribute (ExtentKey s i start stop) y name = inr (λ q. cc q)
is_attribute (ChildKey s i x) y name = inr (λ q. cc q)
is_attribute (GraveKey s i) y name = inr (λ q. cc q)
is_attribute (AllocationKey start stop) y name = inr (λ q. cc q)

-- ---- the steps

some_some : (a b : PlainValue) → Some (Some (ValueEntry a)) ≡ Some (Some (ValueEntry b)) → a ≡ b
some_some a b e = cc e

low_at : (said : Said) (id store : ℕ) (key k : PlainKey) (v w : PlainValue) → key ≡ k → said (AtKey key) ≡ Some (Some (ValueEntry v)) → said (AtKey k) ≡ Some (Some (ValueEntry w))
    → AreLow id store k w → AreLow id store key v
low_at said id store key k v w is e f low = subst (λ z. AreLow id store z v) (sym is) (subst (AreLow id store k) (some_some w v (sym f ∙ sym (ap (λ z. said (AtKey z)) is) ∙ e)) low)

gone_at : (said : Said) (id store : ℕ) (key k : PlainKey) (v : PlainValue) → key ≡ k → said (AtKey key) ≡ Some (Some (ValueEntry v)) → said (AtKey k) ≡ Some None → AreLow id store key v
gone_at said id store key k v is e f = absurd (let q : Some (Some (ValueEntry v)) ≡ Some None = sym e ∙ ap (λ z. said (AtKey z)) is ∙ f in cc q)

other_at : (said : Said) (id store : ℕ) (key : PlainKey) (v : PlainValue) → said (AtKey key) ≡ Some (Some (ValueEntry v)) → said (AtKey key) ≡ None → AreLow id store key v
other_at said id store key v e f = absurd (let q : Some (Some (ValueEntry v)) ≡ None = sym e ∙ f in cc q)

pub point_not : (key k : PlainKey) → key ≢ k → AtKey key ≢ AtKey k
point_not key k ne q = ne (cc q)

new_below : (m : Points) (id store : ℕ) (path : List (List ℕ)) (kind : Kind) (said : Said) → IsBelow (value_under m) id store → PlansNewNode m id store path kind said
    → IsBelow (value_under (points_after m said)) (1 + id) (1 + store)
new_below m id store path kind said b d = below m said id store (1 + id) (1 + store) b (omega arith) (omega arith) (λ key v e. at key v e (is_object key d.node) (is_child key d.parent d.name))
  where
    over_parent : (d.parent.id < id) × (d.parent.store < store)
    over_parent = node_below (value_under m) id store b d.above d.parent d.way

    node_low : (d.node.id < 1 + id) × (d.node.store < 1 + store)
    node_low = elim d.next [
      | inl a ↦ (let i : d.node.id ≡ 0 = ap (λ (z : NodeId). z.id) a.2 in let s : d.node.store ≡ store = ap (λ (z : NodeId). z.store) a.2 in (omega arith, omega arith))
      | inr a ↦ (let i : d.node.id ≡ id = ap (λ (z : NodeId). z.id) a.1 in let s : d.node.store ≡ d.parent.store = ap (λ (z : NodeId). z.store) a.1 in (omega arith, omega (arith, over_parent.1)))
    ]

    value_low : (k : Kind) → AreLow (1 + id) (1 + store) (ObjectKey d.node.store d.node.id) (new_value k)
    value_low Dir = (node_low.0, node_low.1, omega arith, omega arith)
    value_low File = (node_low.0, node_low.1, omega arith, omega arith)

    at : (key : PlainKey) (v : PlainValue) → said (AtKey key) ≡ Some (Some (ValueEntry v)) → Is key (ObjectKey d.node.store d.node.id) → Is key (ChildKey d.parent.store d.parent.id d.name) → AreLow (1 + id) (1 + store) key v
    at key v e (inl is) c = low_at said (1 + id) (1 + store) key (ObjectKey d.node.store d.node.id) v (new_value kind) is e d.says.object (value_low kind)
    at key v e (inr ne) (inl is) = low_at said (1 + id) (1 + store) key (ChildKey d.parent.store d.parent.id d.name) v (ChildValue d.node.store d.node.id) is e d.says.entry
        (omega (arith, over_parent.0), omega (arith, over_parent.1), node_low.0, node_low.1)
    at key v e (inr ne) (inr nc) = other_at said (1 + id) (1 + store) key v e (d.says.others (AtKey key) (point_not key _ ne) (point_not key _ nc))

burial_below : (m : Points) (id store : ℕ) (path : List (List ℕ)) (said : Said) → IsBelow (value_under m) id store → PlansBurial m path said → IsBelow (value_under (points_after m said)) id store
burial_below m id store path said b d = below m said id store id store b (omega arith) (omega arith) (λ key v e. at key v e (is_child key d.parent d.name) (is_grave key d.node))
  where
    node_low : (d.node.id < id) × (d.node.store < store)
    node_low = b.value (ChildKey d.parent.store d.parent.id d.name) (ChildValue d.node.store d.node.id) d.entry

    at : (key : PlainKey) (v : PlainValue) → said (AtKey key) ≡ Some (Some (ValueEntry v)) → Is key (ChildKey d.parent.store d.parent.id d.name) → Is key (GraveKey d.node.store d.node.id) → AreLow id store key v
    at key v e (inl is) c = gone_at said id store key (ChildKey d.parent.store d.parent.id d.name) v is e d.says.gone
    at key v e (inr ne) (inl is) = low_at said id store key (GraveKey d.node.store d.node.id) v WaitingValue is e d.says.waits
        (node_low.0, node_low.1, omega (arith, b.root_id), omega (arith, b.root_store))
    at key v e (inr ne) (inr nc) = other_at said id store key v e (d.says.others (AtKey key) (point_not key _ ne) (point_not key _ nc))

mark_below : (m : Points) (id store : ℕ) (path : List (List ℕ)) (name : List ℕ) (text : Option (List ℕ)) (said : Said) → IsBelow (value_under m) id store → PlansMark m path name text said → IsBelow (value_under (points_after m said)) id store
mark_below m id store path name text said b d = below m said id store id store b (omega arith) (omega arith) (λ key v e. at key v e text refl (is_attribute key d.node name))
  where
    node_low : (d.node.id < id) × (d.node.store < store)
    node_low = node_below (value_under m) id store b path d.node d.way

    at : (key : PlainKey) (v : PlainValue) → said (AtKey key) ≡ Some (Some (ValueEntry v)) → (o : Option (List ℕ)) → text ≡ o → Is key (AttributeKey d.node.store d.node.id name) → AreLow id store key v
    at key v e None t (inl is) = gone_at said id store key (AttributeKey d.node.store d.node.id name) v is e (d.says.attribute ∙ ap (λ z. Some (option_map text_entry z)) t)
    at key v e (Some x) t (inl is) = low_at said id store key (AttributeKey d.node.store d.node.id name) v (AttributeValue x) is e (d.says.attribute ∙ ap (λ z. Some (option_map text_entry z)) t)
        (node_low.0, node_low.1, omega (arith, b.root_id), omega (arith, b.root_store))
    at key v e o t (inr ne) = other_at said id store key v e (d.says.others (AtKey key) (point_not key _ ne))

move_below : (m : Points) (id store : ℕ) (from to : List (List ℕ)) (said : Said) → IsBelow (value_under m) id store → PlansMove m from to said → IsBelow (value_under (points_after m said)) id store
move_below m id store from to said b d = below m said id store id store b (omega arith) (omega arith) (λ key v e. at key v e (is_child key d.parent d.name) (is_child key d.parent_to d.name_to))
  where
    node_low : (d.node.id < id) × (d.node.store < store)
    node_low = b.value (ChildKey d.parent.store d.parent.id d.name) (ChildValue d.node.store d.node.id) d.entry

    to_low : (d.parent_to.id < id) × (d.parent_to.store < store)
    to_low = node_below (value_under m) id store b d.above_to d.parent_to d.way_to

    at : (key : PlainKey) (v : PlainValue) → said (AtKey key) ≡ Some (Some (ValueEntry v)) → Is key (ChildKey d.parent.store d.parent.id d.name) → Is key (ChildKey d.parent_to.store d.parent_to.id d.name_to) → AreLow id store key v
    at key v e (inl is) c = gone_at said id store key (ChildKey d.parent.store d.parent.id d.name) v is e d.says.gone
    at key v e (inr ne) (inl is) = low_at said id store key (ChildKey d.parent_to.store d.parent_to.id d.name_to) v (ChildValue d.node.store d.node.id) is e d.says.entry
        (to_low.0, to_low.1, node_low.0, node_low.1)
    at key v e (inr ne) (inr nc) = other_at said id store key v e (d.says.others (AtKey key) (point_not key _ ne) (point_not key _ nc))

-- a step that makes no node gives no number
none_more : (m : Points) (id store : ℕ) → IsBelow (value_under m) id store → IsBelow (value_under m) (0 + id) (0 + store)
none_more m id store b = below_more (value_under m) id store (0 + id) (0 + store) (omega arith) (omega arith) b

pub plan_below : (m : Points) (id store : ℕ) (step : TreeStep) (said : Said) → IsBelow (value_under m) id store → IsNamesPlan m id store step said
    → IsBelow (value_under (points_after m said)) (nodes_made step + id) (nodes_made step + store)
plan_below m id store step said b (OfMkdir path is d) = subst (λ z. IsBelow (value_under (points_after m said)) (nodes_made z + id) (nodes_made z + store)) (sym is) (new_below m id store path Dir said b d)
plan_below m id store step said b (OfCreate path is d) = subst (λ z. IsBelow (value_under (points_after m said)) (nodes_made z + id) (nodes_made z + store)) (sym is) (new_below m id store path File said b d)
plan_below m id store step said b (OfRemove path is d) = subst (λ z. IsBelow (value_under (points_after m said)) (nodes_made z + id) (nodes_made z + store)) (sym is) (none_more (points_after m said) id store (burial_below m id store path said b d))
plan_below m id store step said b (OfSetAttr path name value is d) = subst (λ z. IsBelow (value_under (points_after m said)) (nodes_made z + id) (nodes_made z + store)) (sym is) (none_more (points_after m said) id store (mark_below m id store path name (Some value) said b d))
plan_below m id store step said b (OfDelAttr path name is d) = subst (λ z. IsBelow (value_under (points_after m said)) (nodes_made z + id) (nodes_made z + store)) (sym is) (none_more (points_after m said) id store (mark_below m id store path name None said b d.mark))
plan_below m id store step said b (OfRename from to is d) = subst (λ z. IsBelow (value_under (points_after m said)) (nodes_made z + id) (nodes_made z + store)) (sym is) (none_more (points_after m said) id store (move_below m id store from to said b d))
