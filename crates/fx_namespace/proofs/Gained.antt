-- One more node: the items stand again, and their tree has the node at the new path.
use Rattle.std.proofs.Common.{◌≡◌, ◌≢◌, ◌⊎◌, inl, inr, ℕ, ◌≤◌, ◌++◌, List, [], ◌∷◌, length, length-append, refl, sym, ap, subst, ◌∙◌, cond, append_assoc, arith}
use Rattle.std.specs.Prelude.{Option, Some, None, option_and_then, option_map}
use Rattle.std.specs.FinMap.{get, insert}
use Rattle.std.proofs.lemmas.Option.{option_and_then_some}
use Rattle.fx_item.specs.Item.{PlainKey, ObjectKey, ChildKey, PlainValue, ChildValue}
use Rattle.fx_plain.specs.Node.{empty_dir}
use Rattle.fx_plain.specs.Tree.{Tree}
use Rattle.fx_plain.specs.declared.kind.Kind.{Kind}
use Rattle.fx_plain.specs.declared.kind.Kind.TheVariants.{Dir}
use Rattle.fx_item.specs.Look.{ItemMap}
use Rattle.fx_namespace.specs.Nodes.{NodeId, root_node, is_root, led_to, child, node_from, node_at, told_kind, object_kind, kind_of, Stands}
use Rattle.fx_namespace.specs.Trees.{Holdings, IsTreeOf, node_of, shown}
use Rattle.fx_namespace.specs.Changes.{GainsNode, IsPlaceFor}
use Rattle.fx_namespace.specs.Commits.{LeadsAlso}
use Rattle.fx_namespace.proofs.Walks.{EndsWith, ends_with, child_value, object_value, kind_of_inner, last_step, more_step, one_path, same_node, same_name, node_path}
use Rattle.fx_plain.proofs.Trees.{Left, left}
use Rattle.fx_namespace.proofs.Trees.{shown_inner}

module _ {m n : ItemMap} {above : List (List ℕ)} {parent : NodeId} {name : List ℕ} {node : NodeId} {kind : Kind} {value : PlainValue}
    (s : Stands m) (p : IsPlaceFor m above parent name node kind) (g : GainsNode m n parent name node value) where
  -- what stands stays
  kept : (key : PlainKey) (v : PlainValue) → m key ≡ Some v → n key ≡ Some v
  kept key v e = g.others key (λ q. cc (sym e ∙ ap m q ∙ p.fresh.object)) (λ q. cc (sym e ∙ ap m q ∙ p.free)) ∙ e

  kept_child : (y : NodeId) (x : List ℕ) (z : NodeId) → child m y x ≡ Some z → child n y x ≡ Some z
  kept_child y x z e = ap led_to (kept (ChildKey y.store y.id x) (ChildValue z.store z.id) (child_value m y x z e))

  kept_walk : (q : List (List ℕ)) (y z : NodeId) → node_from m y q ≡ Some z → node_from n y q ≡ Some z
  kept_walk [] y z e = e
  kept_walk (x ∷ q) y z e = option_and_then_some (λ w. node_from m w q) (child m y x) z e (λ w step rest.
      ap (option_and_then (λ v. node_from n v q)) (kept_child y x w step) ∙ kept_walk q w z rest)

  kept_kind : (y : NodeId) (k : Kind) → object_kind m y ≡ Some k → object_kind n y ≡ Some k
  kept_kind y k e = let v = object_value m y k e in
      ap told_kind (kept (ObjectKey y.store y.id) v.0 v.1 ∙ sym v.1) ∙ e

  -- an entry is the new one or stood before
  abbrev IsEntry : NodeId → List ℕ → PlainValue → Type 0
  IsEntry y x v = ((y ≡ parent) × (x ≡ name) × (v ≡ ChildValue node.store node.id)) ⊎ (m (ChildKey y.store y.id x) ≡ Some v)

  entry_by : (y : NodeId) (x : List ℕ) (v : PlainValue) → n (ChildKey y.store y.id x) ≡ Some v → (y ≡ parent) ⊎ (y ≢ parent) → (x ≡ name) ⊎ (x ≢ name) → IsEntry y x v
  entry_by y x v e (inl a) (inl b) =
      let here : n (ChildKey y.store y.id x) ≡ n (ChildKey parent.store parent.id name) = ap (λ z. n (ChildKey z.store z.id x)) a ∙ ap (λ z. n (ChildKey parent.store parent.id z)) b in
      let same : Some v ≡ Some (ChildValue node.store node.id) = sym e ∙ here ∙ g.entry in
      inl (a, b, cc)
  entry_by y x v e (inr a) b = inr (sym (g.others (ChildKey y.store y.id x) (λ q. cc) (λ q. a (node_path y parent (cc q) (cc q)))) ∙ e)
  entry_by y x v e a (inr b) = inr (sym (g.others (ChildKey y.store y.id x) (λ q. cc) (λ q. b (cc q))) ∙ e)

  entry : (y : NodeId) (x : List ℕ) (v : PlainValue) → n (ChildKey y.store y.id x) ≡ Some v → IsEntry y x v
  entry y x v e = entry_by y x v e (same_node y parent) (same_name x name)

  abbrev IsStep : NodeId → List ℕ → NodeId → Type 0
  IsStep y x z = ((y ≡ parent) × (x ≡ name) × (z ≡ node)) ⊎ (child m y x ≡ Some z)

  step_by : (y : NodeId) (x : List ℕ) (z : NodeId) → IsEntry y x (ChildValue z.store z.id) → IsStep y x z
  step_by y x z (inl a) = let v = a.2 in inl (a.0, a.1, node_path z node (cc v) (cc v))
  step_by y x z (inr a) = inr (ap led_to a)

  step : (y : NodeId) (x : List ℕ) (z : NodeId) → child n y x ≡ Some z → IsStep y x z
  step y x z e = step_by y x z (entry y x (ChildValue z.store z.id) (child_value n y x z e))

  -- an Object is the new one or stood before
  abbrev IsObject : NodeId → PlainValue → Type 0
  IsObject y v = (y ≡ node) ⊎ (m (ObjectKey y.store y.id) ≡ Some v)

  object_by : (y : NodeId) (v : PlainValue) → n (ObjectKey y.store y.id) ≡ Some v → (y ≡ node) ⊎ (y ≢ node) → IsObject y v
  object_by y v e (inl a) = inl a
  object_by y v e (inr a) = inr (sym (g.others (ObjectKey y.store y.id) (λ q. a (node_path y node (cc q) (cc q))) (λ q. cc)) ∙ e)

  -- the new node is not the root, and no path led to it
  not_root : node ≢ root_node
  not_root e = elim p.lead [
    | inl a ↦ let low : 1 ≤ node.store = a.2 in let zero : node.store ≡ 0 = ap (λ z. z.store) e in omega arith
    | inr a ↦ let low : 1 ≤ node.id = a.2 in let zero : node.id ≡ 0 = ap (λ z. z.id) e in omega arith
  ]

  unreached_by : (q : List (List ℕ)) → node_at m q ≡ Some node → EndsWith q → ⊥
  unreached_by q e (inl is) = let top : Some root_node ≡ Some node = subst (λ c. node_at m c ≡ Some node) is e in not_root (sym (cc top))
  unreached_by q e (inr k) =
      let l = last_step m k.0 k.1 node (subst (λ c. node_at m c ≡ Some node) k.2 e) in
      p.fresh.led l.0 k.1 l.2

  unreached : (q : List (List ℕ)) → node_at m q ≡ Some node → ⊥
  unreached q e = unreached_by q e (ends_with q)

  pub way : node_at n (above ++ name ∷ []) ≡ Some node
  way = more_step n above parent name node (kept_walk above root_node parent p.way) (ap led_to g.entry)

  -- nothing is below the new node
  childless : (x : List ℕ) (v : PlainValue) → m (ChildKey node.store node.id x) ≡ Some v → ⊥
  childless x v e = let o = object_value m node Dir (s.parents node x v not_root e) in cc (sym o.1 ∙ p.fresh.object)

  below : (q : List (List ℕ)) (z : NodeId) → node_from n node q ≡ Some z → (q ≡ []) × (z ≡ node)
  below [] z e = (refl, cc)
  below (x ∷ q) z e = option_and_then_some (λ w. node_from n w q) (child n node x) z e (λ w first rest. absurd (by_step w (step node x w first)))
    where
      by_step : (w : NodeId) → IsStep node x w → ⊥
      by_step w (inl a) = unreached above (p.way ∙ ap Some (sym a.0))
      by_step w (inr a) = childless x (ChildValue w.store w.id) (child_value m node x w a)

  -- a walk leads where it led before, or to the new node
  abbrev IsWalk : List (List ℕ) → NodeId → List (List ℕ) → NodeId → Type 0
  IsWalk before y q z = (node_from m y q ≡ Some z) ⊎ ((before ++ q ≡ above ++ name ∷ []) × (z ≡ node))

  walk_by : (before : List (List ℕ)) (y : NodeId) (x : List ℕ) (q : List (List ℕ)) (w z : NodeId) → node_at m before ≡ Some y → node_from n w q ≡ Some z
      → (node_at m (before ++ x ∷ []) ≡ Some w → IsWalk (before ++ x ∷ []) w q z) → IsStep y x w → IsWalk before y (x ∷ q) z
  walk_by before y x q w z at rest ih (inl a) =
      let b = below q z (subst (λ c. node_from n c q ≡ Some z) a.2 rest) in
      let same : before ≡ above = one_path m s before above parent (at ∙ ap Some a.0) p.way in
      inr (ap (λ c. c ++ x ∷ q) same ∙ ap (λ c. above ++ c ∷ q) a.1 ∙ ap (λ c. above ++ name ∷ c) b.0, b.1)
  walk_by before y x q w z at rest ih (inr a) = elim (ih (more_step m before y x w at a)) [
    | inl b ↦ inl (ap (option_and_then (λ v. node_from m v q)) a ∙ b)
    | inr b ↦ inr (sym (append_assoc before (x ∷ []) q) ∙ b.0, b.1)
  ]

  walk : (q before : List (List ℕ)) (y z : NodeId) → node_at m before ≡ Some y → node_from n y q ≡ Some z → IsWalk before y q z
  walk [] before y z at e = inl e
  walk (x ∷ q) before y z at e = option_and_then_some (λ w. node_from n w q) (child n y x) z e (λ w first rest.
      walk_by before y x q w z at rest (λ reached. walk q (before ++ x ∷ []) w z reached rest) (step y x w first))

  -- each path leads where it led before, and the new one to the new node
  same_way : (q : List (List ℕ)) → q ≢ above ++ name ∷ [] → (o r : Option NodeId) → node_at m q ≡ o → node_at n q ≡ r → r ≡ o
  same_way q ne (Some y) r e f = sym f ∙ kept_walk q root_node y e
  same_way q ne None None e f = refl
  same_way q ne None (Some z) e f = absurd (elim (walk q [] root_node z refl f) [ inl a ↦ cc (sym e ∙ a) | inr a ↦ ne a.0 ])

  pub leads_also : LeadsAlso m n (above ++ name ∷ []) node
  leads_also = record { new = way; others = λ q ne. same_way q ne (node_at m q) (node_at n q) refl refl }

  -- ---- the items stand again

  module _ (told : told_kind (Some value) ≡ Some kind) where
    new_kind : object_kind n node ≡ Some kind
    new_kind = ap told_kind g.object ∙ told

    pub stands : Stands n
    stands = record {
      volumes = λ x v e. volume x v (entry root_node x v e);
      inner = λ y x v ne e. within y x v ne (entry y x v e);
      objects = λ y x z e. has_object y x z (step y x z e);
      tops = λ x z e. top x z (step root_node x z e);
      parents = λ y x v ne e. above_dir y x v ne (entry y x v e);
      once = λ a b x y z e f. alone a b x y z (step a x z e) (step b y z f);
      reached = λ y v e. reach y v (object_by y v e (same_node y node));
      depth = λ q z e. deep q z (walk q [] root_node z refl e);
    }
      where
        volume : (x : List ℕ) (v : PlainValue) → IsEntry root_node x v → (store : ℕ) × (v ≡ ChildValue store 0) × (1 ≤ store)
        volume x v (inl a) = elim p.lead [
          | inl b ↦ (node.store, a.2 ∙ ap (ChildValue node.store) b.1, b.2)
          | inr b ↦ absurd (b.0 (sym a.0))
        ]
        volume x v (inr a) = s.volumes x v a

        within : (y : NodeId) (x : List ℕ) (v : PlainValue) → y ≢ root_node → IsEntry y x v → (id : ℕ) × (v ≡ ChildValue y.store id) × (1 ≤ id)
        within y x v ne (inl a) = elim p.lead [
          | inl b ↦ absurd (ne (a.0 ∙ b.0))
          | inr b ↦ (node.id, a.2 ∙ ap (λ i. ChildValue i node.id) (b.1 ∙ ap (λ z. z.store) (sym a.0)), b.2)
        ]
        within y x v ne (inr a) = s.inner y x v ne a

        has_object : (y : NodeId) (x : List ℕ) (z : NodeId) → IsStep y x z → (k : Kind) × (object_kind n z ≡ Some k)
        has_object y x z (inl a) = (kind, ap (object_kind n) a.2 ∙ new_kind)
        has_object y x z (inr a) = let o = s.objects y x z a in (o.0, kept_kind z o.0 o.1)

        top : (x : List ℕ) (z : NodeId) → IsStep root_node x z → object_kind n z ≡ Some Dir
        top x z (inl a) = ap (object_kind n) a.2 ∙ new_kind ∙ ap Some (p.volume (sym a.0))
        top x z (inr a) = kept_kind z Dir (s.tops x z a)

        above_dir : (y : NodeId) (x : List ℕ) (v : PlainValue) → y ≢ root_node → IsEntry y x v → object_kind n y ≡ Some Dir
        above_dir y x v ne (inl a) = kept_kind y Dir (kind_of_inner m y Dir ne (ap (kind_of m) a.0 ∙ p.dir))
        above_dir y x v ne (inr a) = kept_kind y Dir (s.parents y x v ne a)

        alone : (a b : NodeId) (x y : List ℕ) (z : NodeId) → IsStep a x z → IsStep b y z → (a ≡ b) × (x ≡ y)
        alone a b x y z (inl c) (inl d) = (c.0 ∙ sym d.0, c.1 ∙ sym d.1)
        alone a b x y z (inl c) (inr d) = absurd (p.fresh.led b y (d ∙ ap Some c.2))
        alone a b x y z (inr c) (inl d) = absurd (p.fresh.led a x (c ∙ ap Some d.2))
        alone a b x y z (inr c) (inr d) = s.once a b x y z c d

        reach : (y : NodeId) (v : PlainValue) → IsObject y v → (over : List (List ℕ)) × (x : List ℕ) × (node_at n (over ++ x ∷ []) ≡ Some y)
        reach y v (inl a) = (above, name, way ∙ ap Some (sym a))
        reach y v (inr a) = let r = s.reached y v a in (r.0, r.1, kept_walk (r.0 ++ r.1 ∷ []) root_node y r.2)

        deep : (q : List (List ℕ)) (z : NodeId) → IsWalk [] root_node q z → length q ≤ 64
        deep q z (inl a) = s.depth q z a
        deep q z (inr a) = let low = p.depth in omega (arith, ap length a.0, length-append above (name ∷ []))

    -- ---- the tree

    shown_new : (h : Holdings) → shown n h node ≡ Some (node_of h node kind)
    shown_new h = shown_inner n h node not_root ∙ ap (option_map (node_of h node)) new_kind

    shown_old : (h : Holdings) (y : NodeId) → y ≢ node → shown n h y ≡ shown m h y
    shown_old h y ne = ap (λ o. cond (is_root y) (Some empty_dir) (option_map (node_of h y) (told_kind o))) (g.others (ObjectKey y.store y.id) (λ q. ne (node_path y node (cc q) (cc q))) (λ q. cc))

    same_there : (h : Holdings) (q : List (List ℕ)) → q ≢ above ++ name ∷ [] → (o r : Option NodeId) → node_at m q ≡ o → node_at n q ≡ r
        → option_and_then (shown m h) (node_at m q) ≡ option_and_then (shown n h) (node_at n q)
    same_there h q ne (Some y) r e f =
        ap (option_and_then (shown m h)) e ∙ sym (shown_old h y (λ is. unreached q (e ∙ ap Some is))) ∙ sym (ap (option_and_then (shown n h)) (kept_walk q root_node y e))
    same_there h q ne None None e f = ap (option_and_then (shown m h)) e ∙ sym (ap (option_and_then (shown n h)) f)
    same_there h q ne None (Some z) e f = absurd (elim (walk q [] root_node z refl f) [ inl a ↦ cc (sym e ∙ a) | inr a ↦ ne a.0 ])

    pub tree : (h : Holdings) (t : Tree) → IsTreeOf m h t → IsTreeOf n h (insert t (above ++ name ∷ []) (node_of h node kind))
    tree h t a = record { at = λ q. at q (left t (above ++ name ∷ []) (node_of h node kind) q) }
      where
        at : (q : List (List ℕ)) → Left t (above ++ name ∷ []) (node_of h node kind) q → get (insert t (above ++ name ∷ []) (node_of h node kind)) q ≡ option_and_then (shown n h) (node_at n q)
        at q (inl b) = b.1 ∙ sym (shown_new h) ∙ sym (ap (option_and_then (shown n h)) (ap (node_at n) b.0 ∙ way))
        at q (inr b) = b.1 ∙ a.at q ∙ same_there h q b.0 (node_at m q) (node_at n q) refl refl
