-- The nodes that are gathered are those at which something is wrong.
use Rattle.std.proofs.Common.{◌≡◌, ◌≢◌, ◌⊎◌, inl, inr, ℕ, ◌+◌, ◌<◌, ◌≤◌, List, [], ◌∷◌, ◌++◌, length, length-append, take, drop, refl, sym, ap, subst, ◌∙◌, Bool, true, false, cond, arith}
use Rattle.std.specs.Prelude.{Option, Some, None, option_and_then, ◌&&◌, ◌||◌, ◌==◌, not, nat_le}
use Rattle.std.specs.Cmp.{nat_eq_equiv}
use Rattle.std.specs.List.{filter, flat_map}
use Rattle.std.proofs.lemmas.Bool.{and_parts, eqb-true, le-leb, leb-true}
use Rattle.std.proofs.lemmas.List.{length-take, take-append-drop}
use Rattle.std.proofs.lemmas.Option.{option_and_then_some}
use Rattle.fx_item.specs.Item.{ChildKey, PlainValue, GoneValue, ChildValue, PlainItem, IsNameItem}
use Rattle.fx_item.specs.Look.{ItemMap, value_in}
use Rattle.fx_plain.specs.declared.kind.Kind.{Kind}
use Rattle.fx_plain.specs.declared.kind.Kind.TheVariants.{Dir, File}
use Rattle.fx_plain.specs.declared.path.TheConstants.{MAX_NAMES}
use Rattle.fx_namespace.specs.Nodes.{NodeId, child, is_root, led_to, node_at, node_from, object_kind, root_node}
use Rattle.fx_namespace.specs.Wrong.{IsWrongAt, Misled, Missing, NoVolume, LedTwice, NoParent, MayLead}
use Rattle.fx_namespace.proofs.Walks.{EndsWith, child_value, ends_with, last_step, node_from-append, root_is, root_not, same_node}
use Rattle.fx_nodes.specs.Lists.{IsIn, IsRepeated}
use Rattle.fx_nodes.specs.Links.{Link, links_of, nodes_below, targets_in}
use Rattle.fx_nodes.specs.Faults.{AreDeep, AreLost, is_childless, is_wrong_child, may_be, may_lead, wrong_by, wrong_child, wrong_parent}
use Rattle.fx_nodes.specs.Reach.{AreReached, IsLevel, IsReachedFrom}
use Rattle.fx_nodes.specs.Table.{AreKept}
use Rattle.fx_nodes.proofs.Links.{AreLinks, InOrder, are_items, are_links, in_order, not_before}
use Rattle.fx_nodes.proofs.Lists.{filter_in, flat_in, in_cases, in_filter, in_flat, in_left, in_map, in_right, map_in}
use Rattle.fx_nodes.proofs.Spread.{below_led, in_all_targets, in_below}

-- ---- a child alone

-- the tests under a root and under another node
lead_root : (parent node : NodeId) → parent ≡ root_node → may_lead parent node ≡ (node.id == 0 && nat_le 1 node.store)
lead_root parent node e = ap (λ b. cond b (node.id == 0 && nat_le 1 node.store) (node.store == parent.store && nat_le 1 node.id)) (root_is parent e)

lead_inner : (parent node : NodeId) → parent ≢ root_node → may_lead parent node ≡ (node.store == parent.store && nat_le 1 node.id)
lead_inner parent node ne = ap (λ b. cond b (node.id == 0 && nat_le 1 node.store) (node.store == parent.store && nat_le 1 node.id)) (root_not parent ne)

both_true : (x y z : ℕ) → x ≡ y → 1 ≤ z → (x == y && nat_le 1 z) ≡ true
both_true x y z e l = ap (λ b. b && nat_le 1 z) (subst (λ w. (x == w) ≡ true) e (nat_eq_equiv.refl x)) ∙ le-leb 1 z l

pub may_lead_is : (parent node : NodeId) → may_lead parent node ≡ true → MayLead parent node
may_lead_is parent node t = elim (same_node parent root_node) [
  | inl e ↦ let p = and_parts (node.id == 0) (nat_le 1 node.store) (sym (lead_root parent node e) ∙ t) in inl (e, eqb-true node.id 0 p.0, leb-true 1 node.store p.1)
  | inr e ↦ let p = and_parts (node.store == parent.store) (nat_le 1 node.id) (sym (lead_inner parent node e) ∙ t) in inr (e, eqb-true node.store parent.store p.0, leb-true 1 node.id p.1)
]

pub may_lead_at : (parent node : NodeId) → MayLead parent node → may_lead parent node ≡ true
may_lead_at parent node (inl a) = lead_root parent node a.0 ∙ both_true node.id 0 node.store a.1 a.2
may_lead_at parent node (inr a) = lead_inner parent node a.0 ∙ both_true node.store parent.store node.id a.1 a.2

not_dir : (m : ItemMap) (node : NodeId) (kind : Option Kind) → object_kind m node ≡ kind → kind ≢ Some Dir → object_kind m node ≢ Some Dir
not_dir m node kind e ne f = ne (sym e ∙ f)

in_one : (b : Bool) (x y : NodeId) → IsIn (cond b (x ∷ []) []) y → (b ≡ true) × (x ≡ y)
in_one true x y i = (refl, elim i [ inl e ↦ e | inr f ↦ absurd f ])
in_one false x y i = absurd i

one_in : (b : Bool) (x : NodeId) → b ≡ true → IsIn (cond b (x ∷ []) []) x
one_in b x e = subst (λ c. IsIn (cond c (x ∷ []) []) x) (sym e) (inl refl)

module _ (items : List PlainItem) (k : AreKept items) where
  abbrev m : ItemMap
  m = value_in items

  abbrev links : List Link
  links = links_of items

  a : AreLinks m links
  a = are_links items k

  -- what a child leads to is wrong by it
  wrong_child_by : (l : Link) (lead : Bool) (kind : Option Kind) (root : Bool) → IsIn links l → may_lead l.parent l.node ≡ lead → object_kind m l.node ≡ kind → is_root l.parent ≡ root
      → (not lead || not (elim kind as (λ o. Bool) [ None ↦ false | Some z ↦ elim z [ Dir ↦ true | File ↦ not root ] ])) ≡ true → IsWrongAt m l.node
  wrong_child_by l false kind root i e f g t = Misled l.parent l.name (a.sound l i) (λ may. absurd (cc (sym e ∙ may_lead_at l.parent l.node may)))
  wrong_child_by l true None root i e f g t = Missing l.parent l.name (a.sound l i) f
  wrong_child_by l true (Some Dir) root i e f g t = absurd (cc t)
  wrong_child_by l true (Some File) false i e f g t = absurd (cc t)
  wrong_child_by l true (Some File) true i e f g t = elim (same_node l.parent root_node) [
    | inl is ↦ NoVolume l.name (ap (λ p. child m p l.name) (sym is) ∙ a.sound l i) (λ d. cc)
    | inr ne ↦ absurd (cc (sym g ∙ root_not l.parent ne))
  ]

  may_be_is : (parent : NodeId) (kind : Option Kind) → may_be parent kind ≡ elim kind as (λ o. Bool) [ None ↦ false | Some z ↦ elim z [ Dir ↦ true | File ↦ not (is_root parent) ] ]
  may_be_is parent None = refl
  may_be_is parent (Some Dir) = refl
  may_be_is parent (Some File) = refl

  wrong_parent_by : (l : Link) (kind : Option Kind) → IsIn links l → object_kind m l.parent ≡ kind → is_childless l.parent kind ≡ true → IsWrongAt m l.parent
  wrong_parent_by l kind i e t = elim (same_node l.parent root_node) [
    | inl is ↦ absurd (cc (sym (childless_root kind is) ∙ t))
    | inr ne ↦ NoParent l.name (ChildValue l.node.store l.node.id) ne (child_value m l.parent l.name l.node (a.sound l i)) (not_dir m l.parent kind e (childless_no_dir kind t))
  ]
    where
      childless_root : (o : Option Kind) → l.parent ≡ root_node → is_childless l.parent o ≡ false
      childless_root None is = ap not (root_is l.parent is)
      childless_root (Some Dir) is = refl
      childless_root (Some File) is = ap not (root_is l.parent is)

      childless_no_dir : (o : Option Kind) → is_childless l.parent o ≡ true → o ≢ Some Dir
      childless_no_dir None h f = cc
      childless_no_dir (Some Dir) h f = absurd (cc h)
      childless_no_dir (Some File) h f = cc

  pub wrong_by_sound : (node : NodeId) → IsIn (flat_map (wrong_by m) links) node → IsWrongAt m node
  wrong_by_sound node i = let l = flat_in (wrong_by m) links node i in by_part l.0 l.1 (in_cases (wrong_child m l.0) (wrong_parent m l.0) node l.2)
    where
      by_part : (l : Link) → IsIn links l → IsIn (wrong_child m l) node ⊎ IsIn (wrong_parent m l) node → IsWrongAt m node
      by_part l j (inl h) =
          let o = in_one (is_wrong_child m l) l.node node h in
          subst (IsWrongAt m) o.1
          (wrong_child_by l (may_lead l.parent l.node) (object_kind m l.node) (is_root l.parent) j refl refl refl
          (ap (λ b. not (may_lead l.parent l.node) || not b) (sym (may_be_is l.parent (object_kind m l.node))) ∙ o.0))
      by_part l j (inr h) =
          let o = in_one (is_childless l.parent (object_kind m l.parent)) l.parent node h in
          subst (IsWrongAt m) o.1 (wrong_parent_by l (object_kind m l.parent) j refl o.0)

  in_wrong_child : (l : Link) → IsIn links l → is_wrong_child m l ≡ true → IsIn (flat_map (wrong_by m) links) l.node
  in_wrong_child l i e = in_flat (wrong_by m) links l l.node i (in_left (wrong_child m l) (wrong_parent m l) l.node (one_in (is_wrong_child m l) l.node e))

  in_wrong_parent : (l : Link) → IsIn links l → is_childless l.parent (object_kind m l.parent) ≡ true → IsIn (flat_map (wrong_by m) links) l.parent
  in_wrong_parent l i e = in_flat (wrong_by m) links l l.parent i (in_right (wrong_child m l) (wrong_parent m l) l.parent (one_in (is_childless l.parent (object_kind m l.parent)) l.parent e))

  or_left : (b c : Bool) → b ≡ false → (not b || not c) ≡ true
  or_left true c e = absurd (cc e)
  or_left false c e = refl

  or_right : (b c : Bool) → c ≡ false → (not b || not c) ≡ true
  or_right true true e = absurd (cc e)
  or_right true false e = refl
  or_right false c e = refl

  in_links : (p n : NodeId) (x : List ℕ) → child m p x ≡ Some n → IsIn links (record { parent = p; name = x; node = n })
  in_links p n x e = a.whole (record { parent = p; name = x; node = n }) e

  pub misled_in : (p n : NodeId) (x : List ℕ) → child m p x ≡ Some n → (MayLead p n → ⊥) → IsIn (flat_map (wrong_by m) links) n
  misled_in p n x e ne = in_wrong_child (record { parent = p; name = x; node = n }) (in_links p n x e) (or_left (may_lead p n) (may_be p (object_kind m n)) (by_test (may_lead p n) refl))
    where
      by_test : (b : Bool) → may_lead p n ≡ b → may_lead p n ≡ false
      by_test true t = absurd (ne (may_lead_is p n t))
      by_test false t = t

  pub missing_in : (p n : NodeId) (x : List ℕ) → child m p x ≡ Some n → object_kind m n ≡ None → IsIn (flat_map (wrong_by m) links) n
  missing_in p n x e none = in_wrong_child (record { parent = p; name = x; node = n }) (in_links p n x e) (or_right (may_lead p n) (may_be p (object_kind m n)) (ap (may_be p) none))

  pub no_volume_in : (n : NodeId) (x : List ℕ) → child m root_node x ≡ Some n → object_kind m n ≢ Some Dir → IsIn (flat_map (wrong_by m) links) n
  no_volume_in n x e ne = in_wrong_child (record { parent = root_node; name = x; node = n }) (in_links root_node n x e) (or_right (may_lead root_node n) (may_be root_node (object_kind m n)) (by_kind (object_kind m n) refl))
    where
      by_kind : (o : Option Kind) → object_kind m n ≡ o → may_be root_node o ≡ false
      by_kind None t = refl
      by_kind (Some Dir) t = absurd (ne t)
      by_kind (Some File) t = refl

  -- what stands under a child's key leads to a node
  leads : (s i : ℕ) (x : List ℕ) (v : PlainValue) → IsNameItem (record { key = ChildKey s i x; value = v }) → (v ≡ GoneValue → ⊥) → (n : NodeId) × (led_to (Some v) ≡ Some n)
  leads s i x (ChildValue t j) h ne = (record { store = t; id = j }, refl)
  leads s i x GoneValue h ne = absurd (ne refl)
  leads s i x _ h ne = absurd h.item.value

  pub no_parent_in : (n : NodeId) (x : List ℕ) (v : PlainValue) → n ≢ root_node → m (ChildKey n.store n.id x) ≡ Some v → object_kind m n ≢ Some Dir → IsIn (flat_map (wrong_by m) links) n
  no_parent_in n x v ne e nd =
      let are = are_items items k in
      let to = leads n.store n.id x v (are.item (ChildKey n.store n.id x) v e) (λ g. are.alive (ChildKey n.store n.id x) (e ∙ ap Some g)) in
      in_wrong_parent (record { parent = n; name = x; node = to.0 }) (in_links n to.0 x (ap led_to e ∙ to.1)) (by_kind (object_kind m n) refl)
    where
      by_kind : (o : Option Kind) → object_kind m n ≡ o → is_childless n o ≡ true
      by_kind None t = ap not (root_not n ne)
      by_kind (Some Dir) t = absurd (nd t)
      by_kind (Some File) t = ap not (root_not n ne)

  -- ---- two children

  two_from : (ls : List Link) → InOrder ls → (n : NodeId) → IsRepeated (targets_in ls) n
      → (l : Link) × (z : Link) × IsIn ls l × IsIn ls z × (l.node ≡ n) × (z.node ≡ n) × ((l.parent ≡ z.parent) × (l.name ≡ z.name) → ⊥)
  two_from [] o n h = absurd h
  two_from (l ∷ ls) o n (inl h) =
      let z = map_in (λ z. z.node) ls n h.1 in
      (l, z.0, inl refl, inr z.1, h.0, z.2, λ same. not_before l z.0 (o.0 z.0 z.1) same.0 same.1)
  two_from (l ∷ ls) o n (inr h) = let t = two_from ls o.1 n h in (t.0, t.1, inr t.2, inr t.3, t.4, t.5, t.6)

  two_in : (ls : List Link) (l z : Link) (n : NodeId) → IsIn ls l → IsIn ls z → l.node ≡ n → z.node ≡ n → (l ≡ z → ⊥) → IsRepeated (targets_in ls) n
  two_in [] l z n i j e f ne = absurd i
  two_in (y ∷ ls) l z n (inl p) (inl q) e f ne = absurd (ne (sym p ∙ q))
  two_in (y ∷ ls) l z n (inl p) (inr q) e f ne = inl (ap (λ w. w.node) p ∙ e, subst (IsIn (targets_in ls)) f (in_map (λ w. w.node) ls z q))
  two_in (y ∷ ls) l z n (inr p) (inl q) e f ne = inl (ap (λ w. w.node) q ∙ f, subst (IsIn (targets_in ls)) e (in_map (λ w. w.node) ls l p))
  two_in (y ∷ ls) l z n (inr p) (inr q) e f ne = inr (two_in ls l z n p q e f ne)

  pub led_twice_sound : (n : NodeId) → IsRepeated (targets_in links) n → IsWrongAt m n
  led_twice_sound n h =
      let t = two_from links (in_order items k.ascending) n h in
      LedTwice t.0.parent t.1.parent t.0.name t.1.name (a.sound t.0 t.2 ∙ ap Some t.4) (a.sound t.1 t.3 ∙ ap Some t.5) t.6

  pub led_twice_in : (p q n : NodeId) (x y : List ℕ) → child m p x ≡ Some n → child m q y ≡ Some n → ((p ≡ q) × (x ≡ y) → ⊥) → IsRepeated (targets_in links) n
  led_twice_in p q n x y e f ne =
      two_in links (record { parent = p; name = x; node = n }) (record { parent = q; name = y; node = n }) n (in_links p n x e) (in_links q n y f) refl refl (λ s. ne (ap (λ l. l.parent) s, ap (λ l. l.name) s))

-- ---- paths

-- the first step of a path of one or more names
first_step : (m : ItemMap) (above : List (List ℕ)) (name : List ℕ) (n : NodeId) → node_at m (above ++ name ∷ []) ≡ Some n
    → (x : List ℕ) × (s : NodeId) × (rest : List (List ℕ)) × (child m root_node x ≡ Some s) × (node_from m s rest ≡ Some n)
first_step m [] name n e = option_and_then_some (λ z. node_from m z []) (child m root_node name) n e (λ z step rest. (name, z, [], step, rest))
first_step m (x ∷ above) name n e = option_and_then_some (λ z. node_from m z (above ++ name ∷ [])) (child m root_node x) n e (λ z step rest. (x, z, above ++ name ∷ [], step, rest))

module _ {m : ItemMap} {links : List Link} (a : AreLinks m links) where
  -- a path of one or more names leads to what the root's children reach
  pub reached_by : (above : List (List ℕ)) (name : List ℕ) (n : NodeId) → node_at m (above ++ name ∷ []) ≡ Some n → IsReachedFrom m (nodes_below links (root_node ∷ [])) n
  reached_by above name n e =
      let f = first_step m above name n e in
      (f.1, f.2, in_below a (root_node ∷ []) root_node f.1 f.0 (inl refl) f.3, f.4)

  pub path_to : (n : NodeId) → IsReachedFrom m (nodes_below links (root_node ∷ [])) n → (above : List (List ℕ)) × (name : List ℕ) × (node_at m (above ++ name ∷ []) ≡ Some n)
  path_to n r = by_end (ends_with (x ∷ r.1))
    where
      below : (p : NodeId) × IsIn (root_node ∷ []) p × ((name : List ℕ) × (child m p name ≡ Some r.0))
      below = below_led a (root_node ∷ []) r.0 r.2

      root_first : IsIn (root_node ∷ []) below.0 → root_node ≡ below.0
      root_first (inl e) = e
      root_first (inr f) = absurd f

      x : List ℕ
      x = below.2.0

      way : node_at m (x ∷ r.1) ≡ Some n
      way = ap (option_and_then (λ z. node_from m z r.1)) (ap (λ p. child m p x) (root_first below.1) ∙ below.2.1) ∙ r.3

      by_end : EndsWith (x ∷ r.1) → (above : List (List ℕ)) × (name : List ℕ) × (node_at m (above ++ name ∷ []) ≡ Some n)
      by_end (inl e) = absurd (cc e)
      by_end (inr e) = (e.0, e.1, subst (λ c. node_at m c ≡ Some n) e.2 way)

  pub lost_from : (old now : NodeId → Bool) (all objects : List NodeId) → AreReached m old now (nodes_below links (root_node ∷ [])) all → ((n : NodeId) → IsIn objects n → old n ≡ true) → AreLost m objects (filter now objects)
  lost_from old now all objects r there = record {
    object = λ n i. (filter_in now objects n i).0;
    unled = λ n i above name e. (r.rest n (filter_in now objects n i).1).1 (r.whole n (reached_by above name n e));
    whole = λ n i un. elim (r.kept n (there n i)) [
      | inl e ↦ in_filter now objects n i e
      | inr j ↦ let p = path_to n (r.sound n j) in absurd (un p.0 p.1 p.2)
    ];
  }

  pub level_led : (n : ℕ) (level : List NodeId) (q : NodeId) → IsLevel m (n + 1) level → IsIn level q → IsIn (targets_in links) q
  level_led n level q l i = let w = l.sound q i in by_end w.0 w.1 w.2 (ends_with w.0)
    where
      by_end : (path : List (List ℕ)) → length path ≡ n + 1 → node_at m path ≡ Some q → EndsWith path → IsIn (targets_in links) q
      by_end path long e (inl is) = absurd (omega (arith, ap length is))
      by_end path long e (inr s) = let t = last_step m s.0 s.1 q (subst (λ c. node_at m c ≡ Some q) s.2 e) in in_all_targets a t.0 q s.1 t.2

  pub top_led : (q : NodeId) → IsIn (nodes_below links (root_node ∷ [])) q → IsIn (targets_in links) q
  top_led q i = let p = below_led a (root_node ∷ []) q i in in_all_targets a p.0 q p.2.0 p.2.1

module _ {m : ItemMap} {seeds : List NodeId} (l : IsLevel m (MAX_NAMES + 1) seeds) where
  -- a longer path goes through a node of that level
  through : (path : List (List ℕ)) (n : NodeId) → node_at m path ≡ Some n → MAX_NAMES < length path → IsReachedFrom m seeds n
  through path n e long =
      let parts : option_and_then (λ z. node_from m z (drop (MAX_NAMES + 1) path)) (node_at m (take (MAX_NAMES + 1) path)) ≡ Some n =
      sym (node_from-append m root_node (take (MAX_NAMES + 1) path) (drop (MAX_NAMES + 1) path)) ∙ ap (node_at m) (take-append-drop (MAX_NAMES + 1) path) ∙ e in
      option_and_then_some (λ z. node_from m z (drop (MAX_NAMES + 1) path)) (node_at m (take (MAX_NAMES + 1) path)) n parts (λ z way rest.
      (z, drop (MAX_NAMES + 1) path, l.whole (take (MAX_NAMES + 1) path) z (omega (arith, length-take (MAX_NAMES + 1) path)) way, rest))

  pub deep_none : seeds ≡ [] → AreDeep m seeds
  deep_none none = record {
    sound = λ n i. absurd (subst (λ ns. IsIn ns n) none i);
    whole = λ path n e long. let r = through path n e long in absurd (subst (λ ns. IsIn ns r.0) none r.2);
  }

  pub deep_from : (old now : NodeId → Bool) (all : List NodeId) → AreReached m old now seeds all → AreDeep m all
  deep_from old now all r = record {
    sound = λ n i.
        let s = r.sound n i in
        let w = l.sound s.0 s.2 in
        (w.0 ++ s.1, node_from-append m root_node w.0 s.1 ∙ ap (option_and_then (λ z. node_from m z s.1)) w.2 ∙ s.3, omega (arith, length-append w.0 s.1, w.1));
    whole = λ path n e long. r.whole n (through path n e long);
  }
