-- Where nothing is wrong at any node, the items make a tree, and where they make one nothing is wrong.
use Rattle.std.proofs.Common.{◌≡◌, ◌≢◌, ◌⊎◌, inl, inr, ℕ, ◌<◌, ◌≤◌, List, [], ◌∷◌, ◌++◌, length, length-append, refl, sym, ap, subst, ◌∙◌, Bool, true, false, zero, suc, arith}
use Rattle.std.specs.Prelude.{Option, Some, None, Contains}
use Rattle.std.proofs.lemmas.Bool.Decides.{leb_tells}
use Rattle.fx_item.specs.Item.{PlainKey, ObjectKey, AttributeKey, ExtentKey, ChildKey, GraveKey, AllocationKey, PlainValue, GoneValue, ChildValue, IsNameItem}
use Rattle.fx_item.specs.Look.{ItemMap}
use Rattle.fx_plain.specs.declared.kind.Kind.{Kind}
use Rattle.fx_plain.specs.declared.kind.Kind.TheVariants.{Dir, File}
use Rattle.fx_plain.specs.declared.path.TheConstants.{MAX_NAMES}
use Rattle.fx_namespace.specs.Nodes.{NodeId, Stands, child, led_to, node_at, object_kind, root_node}
use Rattle.fx_namespace.specs.Wrong.{AreLiveItems, IsWrongAt, Misled, Missing, NoVolume, LedTwice, NoParent, Lost, TooDeep, MayLead}
use Rattle.fx_namespace.proofs.Walks.{EndsWith, child_value, ends_with, last_step, more_step, object_value, same_name, same_node}
use Rattle.fx_nodes.specs.Lists.{IsIn}
use Rattle.fx_nodes.specs.Faults.{may_lead as may_lead_test}
use Rattle.fx_nodes.proofs.Lists.{in_from}
use Rattle.fx_nodes.proofs.Wrong.{may_lead_at, may_lead_is}

-- ---- what stands makes a tree: nothing is wrong

module _ (m : ItemMap) (s : Stands m) where
  may_lead : (p n : NodeId) (x : List ℕ) → child m p x ≡ Some n → MayLead p n
  may_lead p n x e = elim (same_node p root_node) [
    | inl is ↦
        let v = s.volumes x (ChildValue n.store n.id) (subst (λ z. m (ChildKey z.store z.id x) ≡ Some (ChildValue n.store n.id)) is (child_value m p x n e)) in
        let t : (n.store ≡ v.0) × (n.id ≡ 0) = (cc v.1, cc v.1) in
        inl (is, t.1, omega (arith, t.0, v.2))
    | inr ne ↦
        let v = s.inner p x (ChildValue n.store n.id) ne (child_value m p x n e) in
        let t : (n.store ≡ p.store) × (n.id ≡ v.0) = (cc v.1, cc v.1) in
        inr (ne, t.0, omega (arith, t.1, v.2))
  ]

  pub nothing_wrong : (node : NodeId) → IsWrongAt m node → ⊥
  nothing_wrong node (Misled p x e ne) = ne (may_lead p node x e)
  nothing_wrong node (Missing p x e none) = let o = s.objects p x node e in absurd (cc (sym none ∙ o.1))
  nothing_wrong node (NoVolume x e ne) = ne (s.tops x node e)
  nothing_wrong node (LedTwice a b x y e f ne) = ne (s.once a b x y node e f)
  nothing_wrong node (NoParent x v ne e nd) = nd (s.parents node x v ne e)
  nothing_wrong node (Lost v e un) = let r = s.reached node v e in un r.0 r.1 r.2
  nothing_wrong node (TooDeep path e long) = absurd (omega (arith, s.depth path node e))

-- ---- nothing is wrong: it makes a tree

module _ (m : ItemMap) (are : AreLiveItems m) (keys : List PlainKey) (listed : (key : PlainKey) (value : PlainValue) → m key ≡ Some value → Contains keys key)
    (right : (node : NodeId) → IsWrongAt m node → ⊥) where
  -- what stands under a child's key leads to a node
  leads : (s i : ℕ) (x : List ℕ) (v : PlainValue) → IsNameItem (record { key = ChildKey s i x; value = v }) → (v ≡ GoneValue → ⊥) → (n : NodeId) × (v ≡ ChildValue n.store n.id)
  leads s i x (ChildValue t j) h ne = (record { store = t; id = j }, refl)
  leads s i x GoneValue h ne = absurd (ne refl)
  leads s i x _ h ne = absurd h.item.value

  leads_to : (s i : ℕ) (x : List ℕ) (v : PlainValue) → m (ChildKey s i x) ≡ Some v → (n : NodeId) × (v ≡ ChildValue n.store n.id)
  leads_to s i x v e = leads s i x v (are.item (ChildKey s i x) v e) (λ g. are.alive (ChildKey s i x) (e ∙ ap Some g))

  lead : (p n : NodeId) (x : List ℕ) → child m p x ≡ Some n → MayLead p n
  lead p n x e = by_test (may_lead_test p n) refl
    where
      by_test : (b : Bool) → may_lead_test p n ≡ b → MayLead p n
      by_test true t = may_lead_is p n t
      by_test false t = absurd (right n (Misled p x e (λ may. absurd (cc (sym t ∙ may_lead_at p n may)))))

  has_kind : (p n : NodeId) (x : List ℕ) → child m p x ≡ Some n → (kind : Kind) × (object_kind m n ≡ Some kind)
  has_kind p n x e = by_kind (object_kind m n) refl
    where
      by_kind : (o : Option Kind) → object_kind m n ≡ o → (kind : Kind) × (object_kind m n ≡ Some kind)
      by_kind None t = absurd (right n (Missing p x e t))
      by_kind (Some kind) t = (kind, t)

  -- a node is a directory, or it is not
  dir_or_not : (n : NodeId) → (object_kind m n ≡ Some Dir) ⊎ (object_kind m n ≢ Some Dir)
  dir_or_not n = by_kind (object_kind m n) refl
    where
      by_kind : (o : Option Kind) → object_kind m n ≡ o → (object_kind m n ≡ Some Dir) ⊎ (object_kind m n ≢ Some Dir)
      by_kind None t = inr (λ d. absurd (cc (sym t ∙ d)))
      by_kind (Some Dir) t = inl t
      by_kind (Some File) t = inr (λ d. absurd (cc (sym t ∙ d)))

  parent_dir : (n : NodeId) (x : List ℕ) (v : PlainValue) → n ≢ root_node → m (ChildKey n.store n.id x) ≡ Some v → object_kind m n ≡ Some Dir
  parent_dir n x v ne e = elim (dir_or_not n) [ inl d ↦ d | inr nd ↦ absurd (right n (NoParent x v ne e nd)) ]

  alone : (a b n : NodeId) (x y : List ℕ) → child m a x ≡ Some n → child m b y ≡ Some n → (a ≡ b) × (x ≡ y)
  alone a b n x y e f = by_parts (same_node a b) (same_name x y)
    where
      by_parts : (a ≡ b) ⊎ (a ≢ b) → (x ≡ y) ⊎ (x ≢ y) → (a ≡ b) × (x ≡ y)
      by_parts (inl p) (inl q) = (p, q)
      by_parts (inl p) (inr q) = absurd (right n (LedTwice a b x y e f (λ s. q s.1)))
      by_parts (inr p) q = absurd (right n (LedTwice a b x y e f (λ s. p s.0)))

  short : (path : List (List ℕ)) (n : NodeId) → node_at m path ≡ Some n → length path ≤ MAX_NAMES
  short path n e = elim (leb_tells (length path) MAX_NAMES) [ inl a ↦ a.1 | inr a ↦ absurd (right n (TooDeep path e a.1)) ]

  -- ---- which child leads to a node, found among the keys

  IsLed : NodeId → Type 0
  IsLed n = (p : NodeId) × (x : List ℕ) × (child m p x ≡ Some n)

  IsNotKey : NodeId → PlainKey → Type 0
  IsNotKey n key = (p : NodeId) (x : List ℕ) → key ≡ ChildKey p.store p.id x → child m p x ≡ Some n → ⊥

  by_child : (n : NodeId) (s i : ℕ) (y : List ℕ) (o : Option NodeId) → led_to (m (ChildKey s i y)) ≡ o → IsLed n ⊎ IsNotKey n (ChildKey s i y)
  unfolding IsLed IsNotKey
  by_child n s i y None t = inr (λ p x q e. absurd (cc (sym t ∙ ap (λ k. led_to (m k)) q ∙ e)))
  by_child n s i y (Some z) t = elim (same_node z n) [
    | inl is ↦ inl (record { store = s; id = i }, y, t ∙ ap Some is)
    | inr ne ↦ inr (λ p x q e. let same : Some z ≡ Some n = sym t ∙ ap (λ k. led_to (m k)) q ∙ e in ne (cc same))
  ]

  by_key : (n : NodeId) (key : PlainKey) → IsLed n ⊎ IsNotKey n key
  unfolding IsNotKey
  by_key n (ChildKey s i y) = by_child n s i y (led_to (m (ChildKey s i y))) refl
  by_key n (ObjectKey s i) = inr (λ p x q e. cc)
  by_key n (AttributeKey s i y) = inr (λ p x q e. cc)
  by_key n (ExtentKey s i a b) = inr (λ p x q e. cc)
  by_key n (GraveKey s i) = inr (λ p x q e. cc)
  by_key n (AllocationKey a b) = inr (λ p x q e. cc)

  led_among : (n : NodeId) (ks : List PlainKey) → IsLed n ⊎ ((key : PlainKey) → IsIn ks key → IsNotKey n key)
  unfolding IsNotKey
  led_among n [] = inr (λ key i. absurd i)
  led_among n (k ∷ ks) = by_both (by_key n k) (led_among n ks)
    where
      by_both : IsLed n ⊎ IsNotKey n k → IsLed n ⊎ ((key : PlainKey) → IsIn ks key → IsNotKey n key) → IsLed n ⊎ ((key : PlainKey) → (k ≡ key) ⊎ IsIn ks key → IsNotKey n key)
      by_both (inl a) b = inl a
      by_both (inr a) (inl b) = inl b
      by_both (inr a) (inr b) = inr (λ key i p x q e. elim i [ inl s ↦ a p x (s ∙ q) e | inr j ↦ b key j p x q e ])

  led_or_not : (n : NodeId) → IsLed n ⊎ ((p : NodeId) (x : List ℕ) → child m p x ≡ Some n → ⊥)
  unfolding IsNotKey
  led_or_not n = elim (led_among n keys) [
    | inl a ↦ inl a
    | inr b ↦ inr (λ p x e. let key = ChildKey p.store p.id x in b key (in_from keys key (listed key (ChildValue n.store n.id) (child_value m p x n e))) p x refl e)
  ]

  -- ---- from a node up to the root

  not_root : (n : NodeId) (v : PlainValue) → m (ObjectKey n.store n.id) ≡ Some v → n ≢ root_node
  not_root n v e is = right n (Lost v e (λ above name way.
      let l = last_step m above name n way in
      elim (lead l.0 n name l.2) [
        | inl a ↦ let low : 1 ≤ n.store = a.2 in let zero : n.store ≡ 0 = ap (λ z. z.store) is in omega arith
        | inr a ↦ let low : 1 ≤ n.id = a.2 in let zero : n.id ≡ 0 = ap (λ z. z.id) is in omega arith
      ]))

  IsReached : NodeId → Type 0
  IsReached n = (above : List (List ℕ)) × (name : List ℕ) × (node_at m (above ++ name ∷ []) ≡ Some n)

  -- every path to the node has more names
  IsFar : ℕ → NodeId → Type 0
  IsFar k n = (path : List (List ℕ)) → node_at m path ≡ Some n → k < length path

  one_further : (k : ℕ) (p n : NodeId) (x : List ℕ) → n ≢ root_node → child m p x ≡ Some n → IsFar k p → IsFar (suc k) n
  unfolding IsFar
  one_further k p n x ne e far path way = by_end (ends_with path)
    where
      by_end : EndsWith path → suc k < length path
      by_end (inl is) = let top : Some root_node ≡ Some n = subst (λ c. node_at m c ≡ Some n) is way in absurd (ne (sym (cc top)))
      by_end (inr t) =
          let l = last_step m t.0 t.1 n (subst (λ c. node_at m c ≡ Some n) t.2 way) in
          let same = alone l.0 p n t.1 x l.2 e in
          let long : k < length t.0 = far t.0 (l.1 ∙ ap Some same.0) in
          omega (arith, ap length t.2, length-append t.0 (t.1 ∷ []))

  nearest : (n : NodeId) → n ≢ root_node → IsFar 0 n
  unfolding IsFar
  nearest n ne [] way = absurd (ne (sym (cc way)))
  nearest n ne (x ∷ path) way = omega arith

  climb : (k : ℕ) (n : NodeId) (v : PlainValue) → m (ObjectKey n.store n.id) ≡ Some v → IsReached n ⊎ IsFar k n
  unfolding IsReached IsLed
  climb zero n v e = inr (nearest n (not_root n v e))
  climb (suc k) n v e = elim (led_or_not n) [
    | inl l ↦ by_parent l.0 l.1 l.2 (same_node l.0 root_node) (λ u f. climb k l.0 u f)
    | inr none ↦ absurd (right n (Lost v e (λ above name way. let l = last_step m above name n way in none l.0 name l.2)))
  ]
    where
      by_parent : (p : NodeId) (x : List ℕ) → child m p x ≡ Some n → (p ≡ root_node) ⊎ (p ≢ root_node)
          → ((u : PlainValue) → m (ObjectKey p.store p.id) ≡ Some u → IsReached p ⊎ IsFar k p) → IsReached n ⊎ IsFar (suc k) n
      by_parent p x step (inl is) up = inl ([], x, more_step m [] root_node x n refl (ap (λ z. child m z x) (sym is) ∙ step))
      by_parent p x step (inr ne) up =
          let o = object_value m p Dir (parent_dir p x (ChildValue n.store n.id) ne (child_value m p x n step)) in
          elim (up o.0 o.1) [
            | inl r ↦ inl (r.0 ++ r.1 ∷ [], x, more_step m (r.0 ++ r.1 ∷ []) p x n r.2 step)
            | inr far ↦ inr (one_further k p n x (not_root n v e) step far)
          ]

  reach : (n : NodeId) (v : PlainValue) → m (ObjectKey n.store n.id) ≡ Some v → IsReached n
  unfolding IsReached IsFar
  reach n v e = elim (climb MAX_NAMES n v e) [
    | inl r ↦ r
    | inr far ↦ absurd (right n (Lost v e (λ above name way. right n (TooDeep (above ++ name ∷ []) way (far (above ++ name ∷ []) way)))))
  ]

  pub stands : Stands m
  unfolding IsReached
  stands = record {
    volumes = λ x v e.
        let n = leads_to 0 0 x v e in
        elim (lead root_node n.0 x (ap led_to (e ∙ ap Some n.1))) [
          | inl a ↦ (n.0.store, n.1 ∙ ap (ChildValue n.0.store) a.1, a.2)
          | inr a ↦ absurd (a.0 refl)
        ];
    inner = λ p x v ne e.
        let n = leads_to p.store p.id x v e in
        elim (lead p n.0 x (ap led_to (e ∙ ap Some n.1))) [
          | inl a ↦ absurd (ne a.0)
          | inr a ↦ (n.0.id, n.1 ∙ ap (λ s. ChildValue s n.0.id) a.1, a.2)
        ];
    objects = λ p x n e. has_kind p n x e;
    tops = λ x n e. elim (dir_or_not n) [ inl d ↦ d | inr nd ↦ absurd (right n (NoVolume x e nd)) ];
    parents = parent_dir;
    once = λ a b x y n e f. alone a b n x y e f;
    reached = reach;
    depth = short;
  }
