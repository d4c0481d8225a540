-- A node's child entry stands elsewhere: what lies at its path and below it moves, the items stand
-- again, and their tree has the move.
use Rattle.std.proofs.Common.{◌≡◌, ◌≢◌, ◌⊎◌, inl, inr, ℕ, ◌≤◌, ◌++◌, List, [], ◌∷◌, length, refl, sym, ap, subst, ◌∙◌, append_assoc, cond}
use Rattle.std.specs.Prelude.{Option, Some, None, option_and_then, option_map}
use Rattle.std.proofs.lemmas.List.{append-nil}
use Rattle.std.proofs.lemmas.Option.{option_and_then_some}
use Rattle.std.specs.FinMap.{get}
use Rattle.fx_item.specs.Item.{ObjectKey, ChildKey, ChildValue, PlainKey, PlainValue}
use Rattle.fx_item.specs.Look.{ItemMap}
use Rattle.fx_plain.specs.Node.{empty_dir}
use Rattle.fx_plain.specs.Tree.{Tree}
use Rattle.fx_plain.specs.declared.kind.Kind.{Kind}
use Rattle.fx_plain.specs.declared.kind.Kind.TheVariants.{Dir}
use Rattle.fx_plain.specs.declared.path.TheConstants.{MAX_NAMES}
use Rattle.fx_namespace.specs.Nodes.{NodeId, Stands, root_node, is_root, led_to, child, node_from, node_at, told_kind, object_kind, kind_of}
use Rattle.fx_namespace.specs.Trees.{Holdings, IsTreeOf, node_of, shown}
use Rattle.fx_namespace.specs.Wrong.{MayLead}
use Rattle.fx_namespace.proofs.Walks.{EndsWith, child_value, ends_with, kind_of_inner, snoc_ind, more_step, node_from-append, node_path, one_path, root_not_led, same_node, same_name}
use Rattle.fx_steps.specs.Moved.{IsMoved}
use Rattle.fx_steps.proofs.Below.{below_or_not}
use Rattle.fx_tree.proofs.InTree.{step_at}
use Rattle.fx_tree.proofs.Paths.{follow, longer_path, not_longer, not_nil_more, snoc_parts}

abbrev Path : Type 0
Path = List (List ℕ)

-- what lies at a path and below it lies at another
pub record Moves {A : Type 0} (old new : Path → Option A) (from to : Path) : Type 0 where
  pub inside : (r : Path) → new (to ++ r) ≡ old (from ++ r)
  pub gone : (r : Path) → new (from ++ r) ≡ None
  pub others : (q : Path) → ((r : Path) → q ≢ to ++ r) → ((r : Path) → q ≢ from ++ r) → new q ≡ old q

-- A node that stands under one name in one directory may stand under another name in another.
pub record IsMove (m : ItemMap) (above : Path) (name : List ℕ) (parent : NodeId) (above2 : Path) (name2 : List ℕ) (parent2 node : NodeId) : Type 0 where
  pub way : node_at m above ≡ Some parent
  pub stands : child m parent name ≡ Some node
  pub way2 : node_at m above2 ≡ Some parent2
  pub dir : kind_of m parent2 ≡ Some Dir
  pub free : child m parent2 name2 ≡ None
  pub apart : (r : Path) → above2 ++ name2 ∷ [] ≢ (above ++ name ∷ []) ++ r
  -- within one volume, and no volume
  pub inner : parent ≢ root_node
  pub inner2 : parent2 ≢ root_node
  pub store : parent2.store ≡ parent.store
  pub depth : (r : Path) (y : NodeId) → node_from m node r ≡ Some y → length ((above2 ++ name2 ∷ []) ++ r) ≤ MAX_NAMES

-- the entry is taken away and stands elsewhere
pub record Renames (m n : ItemMap) (a : NodeId) (x : List ℕ) (b : NodeId) (y : List ℕ) (node : NodeId) : Type 0 where
  pub away : n (ChildKey a.store a.id x) ≡ None
  pub entry : n (ChildKey b.store b.id y) ≡ Some (ChildValue node.store node.id)
  pub others : (key : PlainKey) → key ≢ ChildKey a.store a.id x → key ≢ ChildKey b.store b.id y → n key ≡ m key

-- what a move says of one path
pub record Says {A : Type 0} (old new : Path → Option A) (from to q : Path) : Type 0 where
  pub inside : (r : Path) → q ≡ to ++ r → new q ≡ old (from ++ r)
  pub gone : (r : Path) → q ≡ from ++ r → new q ≡ None
  pub others : ((r : Path) → q ≢ to ++ r) → ((r : Path) → q ≢ from ++ r) → new q ≡ old q

module _ {m n : ItemMap} {a1 a2 : Path} {x1 x2 : List ℕ} {p1 p2 node : NodeId}
    (one : (p q : Path) (y : NodeId) → node_at m p ≡ Some y → node_at m q ≡ Some y → p ≡ q)
    (is : IsMove m a1 x1 p1 a2 x2 p2 node) (c : Renames m n p1 x1 p2 x2 node) where
  pub same_child : (a : NodeId) (x : List ℕ) → ((a ≡ p1) × (x ≡ x1) → ⊥) → ((a ≡ p2) × (x ≡ x2) → ⊥) → child n a x ≡ child m a x
  same_child a x f g = ap led_to (c.others (ChildKey a.store a.id x)
      (λ e. f (node_path a p1 (cc e) (cc e), cc e)) (λ e. g (node_path a p2 (cc e) (cc e), cc e)))

  -- one more step along a path that leads in n where another led in m
  step_on : (p q : Path) (x : List ℕ) → node_at n q ≡ node_at m p → p ++ x ∷ [] ≢ a1 ++ x1 ∷ [] → p ++ x ∷ [] ≢ a2 ++ x2 ∷ [] → node_at n (q ++ x ∷ []) ≡ node_at m (p ++ x ∷ [])
  step_on p q x e f g =
      step_at n q x ∙ ap (option_and_then (λ y. child n y x)) e
      ∙ follow (λ y. child n y x) (λ y. child m y x) (node_at m p) (λ w h. same_child w x
      (λ s. f (ap (λ z. z ++ x ∷ []) (one p a1 w h (is.way ∙ ap Some (sym s.0))) ∙ ap (λ z. a1 ++ z ∷ []) s.1))
      (λ s. g (ap (λ z. z ++ x ∷ []) (one p a2 w h (is.way2 ∙ ap Some (sym s.0))) ∙ ap (λ z. a2 ++ z ∷ []) s.1)))
      ∙ sym (step_at m p x)

  -- nothing lay at the new path, so the old one is not below it
  free_below : (r : Path) → node_at m ((a2 ++ x2 ∷ []) ++ r) ≡ None
  free_below r = node_from-append m root_node (a2 ++ x2 ∷ []) r ∙ ap (option_and_then (λ z. node_from m z r)) (step_at m a2 x2 ∙ ap (option_and_then (λ y. child m y x2)) is.way2 ∙ is.free)

  stood : node_at m (a1 ++ x1 ∷ []) ≡ Some node
  stood = more_step m a1 p1 x1 node is.way is.stands

  onto : (r : Path) → a1 ++ x1 ∷ [] ≢ (a2 ++ x2 ∷ []) ++ r
  onto r e = cc (sym stood ∙ ap (node_at m) e ∙ free_below r)

  says_nil : Says (node_at m) (node_at n) (a1 ++ x1 ∷ []) (a2 ++ x2 ∷ []) []
  says_nil = record {
    inside = λ r e. absurd (not_nil_more a2 x2 r (sym e));
    gone = λ r e. absurd (not_nil_more a1 x1 r (sym e));
    others = λ f g. refl;
  }

  module _ (q : Path) (x : List ℕ) (ih : Says (node_at m) (node_at n) (a1 ++ x1 ∷ []) (a2 ++ x2 ∷ []) q) where
    -- the directories above the two paths stay
    at_to : q ≡ a2 → node_at n q ≡ Some p2
    at_to e = ih.others (λ r f. longer_path a2 x2 r (sym e ∙ f)) (λ r f. is.apart (r ++ x2 ∷ []) (ap (λ z. z ++ x2 ∷ []) (sym e ∙ f) ∙ append_assoc (a1 ++ x1 ∷ []) r (x2 ∷ []))) ∙ ap (node_at m) e ∙ is.way2

    at_from : q ≡ a1 → node_at n q ≡ Some p1
    at_from e = ih.others (λ r f. onto (r ++ x1 ∷ []) (ap (λ z. z ++ x1 ∷ []) (sym e ∙ f) ∙ append_assoc (a2 ++ x2 ∷ []) r (x1 ∷ []))) (λ r f. longer_path a1 x1 r (sym e ∙ f)) ∙ ap (node_at m) e ∙ is.way

    inside_by : (r : Path) → q ++ x ∷ [] ≡ (a2 ++ x2 ∷ []) ++ r → EndsWith r → node_at n (q ++ x ∷ []) ≡ node_at m ((a1 ++ x1 ∷ []) ++ r)
    inside_by r e (inl nil) =
        let s = snoc_parts q a2 x x2 (e ∙ ap (λ z. (a2 ++ x2 ∷ []) ++ z) nil ∙ append-nil (a2 ++ x2 ∷ [])) in
        more_step n q p2 x node (at_to s.0) (ap (child n p2) s.1 ∙ ap led_to c.entry)
        ∙ sym stood ∙ sym (ap (node_at m) (ap (λ z. (a1 ++ x1 ∷ []) ++ z) nil ∙ append-nil (a1 ++ x1 ∷ [])))
    inside_by r e (inr k) =
        let s = snoc_parts q ((a2 ++ x2 ∷ []) ++ k.0) x k.1 (e ∙ ap (λ z. (a2 ++ x2 ∷ []) ++ z) k.2 ∙ sym (append_assoc (a2 ++ x2 ∷ []) k.0 (k.1 ∷ []))) in
        step_on ((a1 ++ x1 ∷ []) ++ k.0) q x (ih.inside k.0 s.0)
        (λ f. not_longer (a1 ++ x1 ∷ []) k.0 x f)
        (λ f. is.apart (k.0 ++ x ∷ []) (sym f ∙ append_assoc (a1 ++ x1 ∷ []) k.0 (x ∷ [])))
        ∙ ap (node_at m) (ap (λ z. ((a1 ++ x1 ∷ []) ++ k.0) ++ z ∷ []) s.1 ∙ append_assoc (a1 ++ x1 ∷ []) k.0 (k.1 ∷ []) ∙ ap (λ z. (a1 ++ x1 ∷ []) ++ z) (sym k.2))

    gone_by : (r : Path) → q ++ x ∷ [] ≡ (a1 ++ x1 ∷ []) ++ r → EndsWith r → node_at n (q ++ x ∷ []) ≡ None
    gone_by r e (inl nil) =
        let s = snoc_parts q a1 x x1 (e ∙ ap (λ z. (a1 ++ x1 ∷ []) ++ z) nil ∙ append-nil (a1 ++ x1 ∷ [])) in
        step_at n q x ∙ ap (option_and_then (λ y. child n y x)) (at_from s.0) ∙ ap (child n p1) s.1 ∙ ap led_to c.away
    gone_by r e (inr k) =
        let s = snoc_parts q ((a1 ++ x1 ∷ []) ++ k.0) x k.1 (e ∙ ap (λ z. (a1 ++ x1 ∷ []) ++ z) k.2 ∙ sym (append_assoc (a1 ++ x1 ∷ []) k.0 (k.1 ∷ []))) in
        step_at n q x ∙ ap (option_and_then (λ y. child n y x)) (ih.gone k.0 s.0)

    says_more : Says (node_at m) (node_at n) (a1 ++ x1 ∷ []) (a2 ++ x2 ∷ []) (q ++ x ∷ [])
    says_more = record {
      inside = λ r e. inside_by r e (ends_with r);
      gone = λ r e. gone_by r e (ends_with r);
      others = λ f g. step_on q q x
          (ih.others (λ r e. f (r ++ x ∷ []) (ap (λ z. z ++ x ∷ []) e ∙ append_assoc (a2 ++ x2 ∷ []) r (x ∷ [])))
          (λ r e. g (r ++ x ∷ []) (ap (λ z. z ++ x ∷ []) e ∙ append_assoc (a1 ++ x1 ∷ []) r (x ∷ []))))
          (λ e. g [] (e ∙ sym (append-nil (a1 ++ x1 ∷ []))))
          (λ e. f [] (e ∙ sym (append-nil (a2 ++ x2 ∷ []))));
    }

  pub ways : Moves (node_at m) (node_at n) (a1 ++ x1 ∷ []) (a2 ++ x2 ∷ [])
  ways = record {
    inside = λ r. (says ((a2 ++ x2 ∷ []) ++ r)).inside r refl;
    gone = λ r. (says ((a1 ++ x1 ∷ []) ++ r)).gone r refl;
    others = λ q f g. (says q).others f g;
  }
    where
      says : (q : Path) → Says (node_at m) (node_at n) (a1 ++ x1 ∷ []) (a2 ++ x2 ∷ []) q
      says = snoc_ind (Says (node_at m) (node_at n) (a1 ++ x1 ∷ []) (a2 ++ x2 ∷ [])) says_nil (λ q x h. says_more q x h)

-- ---- the items stand again

-- where a child may lead
pub may_lead : (m : ItemMap) → Stands m → (a : NodeId) (x : List ℕ) (y : NodeId) → child m a x ≡ Some y → MayLead a y
may_lead m s a x y e = by (same_node a root_node)
  where
    by : (a ≡ root_node) ⊎ (a ≢ root_node) → MayLead a y
    by (inl top) =
        let v = s.volumes x _ (child_value m root_node x y (ap (λ z. child m z x) (sym top) ∙ e)) in
        let is : ChildValue y.store y.id ≡ ChildValue v.0 0 = v.1 in
        inl (top, cc is, subst (λ k. 1 ≤ k) (cc (sym is)) v.2)
    by (inr inner) =
        let v = s.inner a x _ inner (child_value m a x y e) in
        let is : ChildValue y.store y.id ≡ ChildValue a.store v.0 = v.1 in
        inr (inner, cc is, subst (λ k. 1 ≤ k) (cc (sym is)) v.2)

module _ {m n : ItemMap} {a1 a2 : Path} {x1 x2 : List ℕ} {p1 p2 node : NodeId}
    (f : Stands m) (is : IsMove m a1 x1 p1 a2 x2 p2 node) (c : Renames m n p1 x1 p2 x2 node) where
  pub walks : Moves (node_at m) (node_at n) (a1 ++ x1 ∷ []) (a2 ++ x2 ∷ [])
  walks = ways (one_path m f) is c

  same_object : (y : NodeId) → n (ObjectKey y.store y.id) ≡ m (ObjectKey y.store y.id)
  same_object y = c.others (ObjectKey y.store y.id) (λ e. cc e) (λ e. cc e)

  pub same_kind : (y : NodeId) → object_kind n y ≡ object_kind m y
  same_kind y = ap told_kind (same_object y)

  -- a step in n is the new entry, or was one in m
  abbrev IsStep : NodeId → List ℕ → NodeId → Type 0
  IsStep a x y = ((a ≡ p2) × (x ≡ x2) × (y ≡ node)) ⊎ (((a ≡ p1) × (x ≡ x1) → ⊥) × (child m a x ≡ Some y))

  both : (a b : NodeId) (x y : List ℕ) → ((a ≡ b) × (x ≡ y)) ⊎ ((a ≡ b) × (x ≡ y) → ⊥)
  both a b x y = by_parts (same_node a b) (same_name x y)
    where
      by_parts : (a ≡ b) ⊎ (a ≢ b) → (x ≡ y) ⊎ (x ≢ y) → ((a ≡ b) × (x ≡ y)) ⊎ ((a ≡ b) × (x ≡ y) → ⊥)
      by_parts (inl e) (inl g) = inl (e, g)
      by_parts (inl e) (inr g) = inr (λ s. g s.1)
      by_parts (inr e) g = inr (λ s. e s.0)

  step_by : (a : NodeId) (x : List ℕ) (y : NodeId) → child n a x ≡ Some y → ((a ≡ p1) × (x ≡ x1)) ⊎ ((a ≡ p1) × (x ≡ x1) → ⊥) → ((a ≡ p2) × (x ≡ x2)) ⊎ ((a ≡ p2) × (x ≡ x2) → ⊥) → IsStep a x y
  step_by a x y e (inl s) t = absurd (cc (sym e ∙ ap (λ z. child n z x) s.0 ∙ ap (child n p1) s.1 ∙ ap led_to c.away))
  step_by a x y e (inr s) (inl t) = inl (t.0, t.1, cc (sym e ∙ ap (λ z. child n z x) t.0 ∙ ap (child n p2) t.1 ∙ ap led_to c.entry))
  step_by a x y e (inr s) (inr t) = inr (s, sym (same_child (one_path m f) is c a x s t) ∙ e)

  step : (a : NodeId) (x : List ℕ) (y : NodeId) → child n a x ≡ Some y → IsStep a x y
  step a x y e = step_by a x y e (both a p1 x x1) (both a p2 x x2)

  -- what an entry of n is
  value_by : (a : NodeId) (x : List ℕ) (v : PlainValue) → n (ChildKey a.store a.id x) ≡ Some v
      → ((a ≡ p1) × (x ≡ x1)) ⊎ ((a ≡ p1) × (x ≡ x1) → ⊥) → ((a ≡ p2) × (x ≡ x2)) ⊎ ((a ≡ p2) × (x ≡ x2) → ⊥)
      → ((a ≡ p2) × (v ≡ ChildValue node.store node.id)) ⊎ (m (ChildKey a.store a.id x) ≡ Some v)
  value_by a x v e (inl s) t = absurd (let q : None ≡ Some v = sym c.away ∙ sym (ap (λ z. n (ChildKey p1.store p1.id z)) s.1) ∙ sym (ap (λ (z : NodeId). n (ChildKey z.store z.id x)) s.0) ∙ e in cc)
  value_by a x v e (inr s) (inl t) = inl (t.0, (let q : Some (ChildValue node.store node.id) ≡ Some v = sym c.entry ∙ sym (ap (λ z. n (ChildKey p2.store p2.id z)) t.1) ∙ sym (ap (λ (z : NodeId). n (ChildKey z.store z.id x)) t.0) ∙ e in cc (sym q)))
  value_by a x v e (inr s) (inr t) = inr (sym (c.others (ChildKey a.store a.id x) (λ q. s (node_path a p1 (cc q) (cc q), cc q)) (λ q. t (node_path a p2 (cc q) (cc q), cc q))) ∙ e)

  value : (a : NodeId) (x : List ℕ) (v : PlainValue) → n (ChildKey a.store a.id x) ≡ Some v
      → ((a ≡ p2) × (v ≡ ChildValue node.store node.id)) ⊎ (m (ChildKey a.store a.id x) ≡ Some v)
  value a x v e = value_by a x v e (both a p1 x x1) (both a p2 x x2)

  led : MayLead p1 node
  led = may_lead m f p1 x1 node is.stands

  in_store : (node.store ≡ p2.store) × (1 ≤ node.id)
  in_store = elim led [ inl b ↦ absurd (is.inner b.0) | inr b ↦ (b.1 ∙ sym is.store, b.2) ]

  -- the old entry is the only one that led to the node
  no_other : (b : NodeId) (y : List ℕ) (z : NodeId) → z ≡ node → ((b ≡ p1) × (y ≡ x1) → ⊥) → child m b y ≡ Some z → ⊥
  no_other b y z e g d = g (f.once b p1 y x1 node (d ∙ ap Some e) is.stands)

  once : (a b : NodeId) (x y : List ℕ) (z : NodeId) → IsStep a x z → IsStep b y z → (a ≡ b) × (x ≡ y)
  once a b x y z (inl s) (inl t) = (s.0 ∙ sym t.0, s.1 ∙ sym t.1)
  once a b x y z (inl s) (inr t) = absurd (no_other b y z s.2 t.0 t.1)
  once a b x y z (inr s) (inl t) = absurd (no_other a x z t.2 s.0 s.1)
  once a b x y z (inr s) (inr t) = f.once a b x y z s.1 t.1

  object : (a : NodeId) (x : List ℕ) (y : NodeId) → IsStep a x y → (kind : Kind) × (object_kind m y ≡ Some kind)
  object a x y (inl s) = let k = f.objects p1 x1 node is.stands in (k.0, ap (object_kind m) s.2 ∙ k.1)
  object a x y (inr s) = f.objects a x y s.1

  top : (x : List ℕ) (y : NodeId) → IsStep root_node x y → object_kind m y ≡ Some Dir
  top x y (inl s) = absurd (is.inner2 (sym s.0))
  top x y (inr s) = f.tops x y s.1

  parent : (a : NodeId) (x : List ℕ) (v : PlainValue) → a ≢ root_node → ((a ≡ p2) × (v ≡ ChildValue node.store node.id)) ⊎ (m (ChildKey a.store a.id x) ≡ Some v) → object_kind m a ≡ Some Dir
  parent a x v ne (inl s) = ap (object_kind m) s.0 ∙ kind_of_inner m p2 Dir is.inner2 is.dir
  parent a x v ne (inr s) = f.parents a x v ne s

  volume : (x : List ℕ) (v : PlainValue) → ((root_node ≡ p2) × (v ≡ ChildValue node.store node.id)) ⊎ (m (ChildKey 0 0 x) ≡ Some v) → (store : ℕ) × (v ≡ ChildValue store 0) × (1 ≤ store)
  volume x v (inl s) = absurd (is.inner2 (sym s.0))
  volume x v (inr s) = f.volumes x v s

  inner : (a : NodeId) (x : List ℕ) (v : PlainValue) → a ≢ root_node → ((a ≡ p2) × (v ≡ ChildValue node.store node.id)) ⊎ (m (ChildKey a.store a.id x) ≡ Some v) → (id : ℕ) × (v ≡ ChildValue a.store id) × (1 ≤ id)
  inner a x v ne (inl s) = (node.id, s.1 ∙ ap (λ k. ChildValue k node.id) (in_store.0 ∙ sym (ap (λ (z : NodeId). z.store) s.0)), in_store.1)
  inner a x v ne (inr s) = f.inner a x v ne s

  to_free : (r : Path) → node_at m ((a2 ++ x2 ∷ []) ++ r) ≡ None
  to_free r = free_below (one_path m f) is c r

  reach : (q : Path) (y : NodeId) → node_at m q ≡ Some y → ((r : Path) × (q ≡ (a2 ++ x2 ∷ []) ++ r)) ⊎ ((r : Path) → q ≢ (a2 ++ x2 ∷ []) ++ r) → ((r : Path) × (q ≡ (a1 ++ x1 ∷ []) ++ r)) ⊎ ((r : Path) → q ≢ (a1 ++ x1 ∷ []) ++ r)
      → (path : Path) × (node_at n path ≡ Some y)
  reach q y e (inl b) d = absurd (cc (sym e ∙ ap (node_at m) b.1 ∙ to_free b.0))
  reach q y e (inr b) (inl d) = ((a2 ++ x2 ∷ []) ++ d.0, walks.inside d.0 ∙ ap (node_at m) (sym d.1) ∙ e)
  reach q y e (inr b) (inr d) = (q, walks.others q b d ∙ e)

  -- a path to a node that is not the root has a last name
  last_by : (path : Path) (y : NodeId) → node_at n path ≡ Some y → y ≢ root_node → EndsWith path → (above : Path) × (name : List ℕ) × (node_at n (above ++ name ∷ []) ≡ Some y)
  last_by path y e ne (inl nil) = absurd (ne (let q : Some root_node ≡ Some y = sym (ap (node_at n) nil) ∙ e in cc (sym q)))
  last_by path y e ne (inr k) = (k.0, k.1, sym (ap (node_at n) k.2) ∙ e)

  reached : (y : NodeId) (v : PlainValue) → n (ObjectKey y.store y.id) ≡ Some v → (above : Path) × (name : List ℕ) × (node_at n (above ++ name ∷ []) ≡ Some y)
  reached y v e =
      let w = f.reached y v (sym (same_object y) ∙ e) in
      let p = reach (w.0 ++ w.1 ∷ []) y w.2 (below_or_not (a2 ++ x2 ∷ []) (w.0 ++ w.1 ∷ [])) (below_or_not (a1 ++ x1 ∷ []) (w.0 ++ w.1 ∷ [])) in
      last_by p.0 y p.1 (λ top_is. not_nil_more w.0 w.1 [] (append-nil (w.0 ++ w.1 ∷ []) ∙ one_path m f (w.0 ++ w.1 ∷ []) [] y w.2 (ap Some (sym top_is)))) (ends_with p.0)

  stood_at : node_at m (a1 ++ x1 ∷ []) ≡ Some node
  stood_at = more_step m a1 p1 x1 node is.way is.stands

  depth : (q : Path) (y : NodeId) → node_at n q ≡ Some y → ((r : Path) × (q ≡ (a2 ++ x2 ∷ []) ++ r)) ⊎ ((r : Path) → q ≢ (a2 ++ x2 ∷ []) ++ r) → ((r : Path) × (q ≡ (a1 ++ x1 ∷ []) ++ r)) ⊎ ((r : Path) → q ≢ (a1 ++ x1 ∷ []) ++ r) → length q ≤ MAX_NAMES
  depth q y e (inl b) d = subst (λ z. length z ≤ MAX_NAMES) (sym b.1) (is.depth b.0 y (
      sym (node_from-append m root_node (a1 ++ x1 ∷ []) b.0 ∙ ap (option_and_then (λ z. node_from m z b.0)) stood_at)
      ∙ sym (walks.inside b.0) ∙ ap (node_at n) (sym b.1) ∙ e))
  depth q y e (inr b) (inl d) = absurd (cc (sym e ∙ ap (node_at n) d.1 ∙ walks.gone d.0))
  depth q y e (inr b) (inr d) = f.depth q y (sym (walks.others q b d) ∙ e)

  pub stands : Stands n
  stands = record {
    volumes = λ x v e. volume x v (value root_node x v e);
    inner = λ a x v ne e. inner a x v ne (value a x v e);
    objects = λ a x y e. let k = object a x y (step a x y e) in (k.0, same_kind y ∙ k.1);
    tops = λ x y e. same_kind y ∙ top x y (step root_node x y e);
    parents = λ a x v ne e. same_kind a ∙ parent a x v ne (value a x v e);
    once = λ a b x y z d e. once a b x y z (step a x z d) (step b y z e);
    reached = λ y v e. reached y v e;
    depth = λ q y e. depth q y e (below_or_not (a2 ++ x2 ∷ []) q) (below_or_not (a1 ++ x1 ∷ []) q);
  }

  shown_same : (h : Holdings) (o : Option NodeId) → option_and_then (shown m h) o ≡ option_and_then (shown n h) o
  shown_same h None = refl
  shown_same h (Some y) = ap (λ k. cond (is_root y) (Some empty_dir) (option_map (node_of h y) k)) (sym (same_kind y))

  pub tree : (h : Holdings) (t u : Tree) → IsMoved (get t) (get u) (a1 ++ x1 ∷ []) (a2 ++ x2 ∷ []) → IsTreeOf m h t → IsTreeOf n h u
  tree h t u v is_tree = record { at = λ q. at q (below_or_not (a2 ++ x2 ∷ []) q) (below_or_not (a1 ++ x1 ∷ []) q) }
    where
      at : (q : Path) → ((r : Path) × (q ≡ (a2 ++ x2 ∷ []) ++ r)) ⊎ ((r : Path) → q ≢ (a2 ++ x2 ∷ []) ++ r) → ((r : Path) × (q ≡ (a1 ++ x1 ∷ []) ++ r)) ⊎ ((r : Path) → q ≢ (a1 ++ x1 ∷ []) ++ r)
          → get u q ≡ option_and_then (shown n h) (node_at n q)
      at q (inl a) b = ap (get u) a.1 ∙ v.inside a.0 ∙ is_tree.at ((a1 ++ x1 ∷ []) ++ a.0) ∙ shown_same h (node_at m ((a1 ++ x1 ∷ []) ++ a.0))
          ∙ ap (option_and_then (shown n h)) (sym (walks.inside a.0) ∙ ap (node_at n) (sym a.1))
      at q (inr a) (inl b) = ap (get u) b.1 ∙ v.gone b.0 ∙ ap (option_and_then (shown n h)) (sym (walks.gone b.0) ∙ ap (node_at n) (sym b.1))
      at q (inr a) (inr b) = v.others q a b ∙ is_tree.at q ∙ shown_same h (node_at m q) ∙ ap (option_and_then (shown n h)) (sym (walks.others q a b))

-- ---- stores

-- what is below a node that is not the root is in its store
store_step : (y z : NodeId) → y ≢ root_node → MayLead y z → z.store ≡ y.store
store_step y z ne (inl a) = absurd (ne a.0)
store_step y z ne (inr a) = a.1

not_root : (m : ItemMap) → Stands m → (a : NodeId) (x : List ℕ) (y : NodeId) → child m a x ≡ Some y → y ≢ root_node
not_root m s a x y e top = root_not_led m s a x (e ∙ ap Some top)

store_below : (m : ItemMap) → Stands m → (r : Path) (y z : NodeId) → y ≢ root_node → node_from m y r ≡ Some z → (z.store ≡ y.store) × (z ≢ root_node)
store_below m f [] y z ne e = let s : y ≡ z = cc e in (ap (λ w. w.store) (sym s), λ d. ne (s ∙ d))
store_below m f (x ∷ r) y z ne e = option_and_then_some (λ w. node_from m w r) (child m y x) z e (λ w c d.
    let b = store_below m f r w z (not_root m f y x w c) d in
    (b.0 ∙ store_step y w ne (may_lead m f y x w c), b.1))

-- two nodes below one volume
pub below_volume : (m : ItemMap) → Stands m → (v : List ℕ) (r s : Path) (y z : NodeId) → node_at m (v ∷ r) ≡ Some y → node_at m (v ∷ s) ≡ Some z → (y ≢ root_node) × (z ≢ root_node) × (z.store ≡ y.store)
below_volume m f v r s y z a b =
    option_and_then_some (λ w. node_from m w r) (child m root_node v) y a (λ w c d.
    option_and_then_some (λ w. node_from m w s) (child m root_node v) z b (λ u g k.
    let p = store_below m f r w y (not_root m f root_node v w c) d in
    let q = store_below m f s u z (not_root m f root_node v u g) k in
    let e : w ≡ u = cc (sym c ∙ g) in
    (p.1, q.1, q.0 ∙ ap (λ n. n.store) (sym e) ∙ sym p.0)))
