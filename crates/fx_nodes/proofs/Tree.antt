-- The levels of the tree have each of its nodes once.
use Rattle.std.proofs.Common.{◌≡◌, ◌≢◌, ◌⊎◌, inl, inr, ℕ, ◌<◌, ◌≤◌, List, [], ◌∷◌, ◌++◌, length, length-append, map, refl, sym, ap, subst, ◌∙◌, Bool, true, false, cond, zero, suc, arith}
use Rattle.std.specs.Prelude.{Some, slice_get, unwrap_or}
use Rattle.fx_item.specs.Item.{PlainItem}
use Rattle.fx_item.specs.Look.{ItemMap, value_in}
use Rattle.fx_plain.specs.declared.kind.Kind.TheVariants.{Dir}
use Rattle.fx_namespace.specs.Nodes.{NodeId, Stands, child, node_at, object_kind, root_node}
use Rattle.fx_namespace.proofs.Walks.{EndsWith, ends_with, last_step, more_step}
use Rattle.fx_nodes.specs.Lists.{IsIn}
use Rattle.fx_nodes.specs.Links.{Link, is_same_node, links_from, links_of}
use Rattle.fx_nodes.specs.Table.{AreKept}
use Rattle.fx_nodes.specs.Tree.{AreTreeNodes, all_below, below, level_of, levels, node_below}
use Rattle.fx_nodes.specs.declared.walk.TreeNode.{TreeNode}
use Rattle.fx_nodes.proofs.Links.{AreLinks, InOrder, are_links, in_order, not_before}
use Rattle.fx_nodes.proofs.Lists.{filter_in, flat_in, in_cases, in_filter, in_flat, in_left, in_map, in_right, map_in, no_items}
use Rattle.fx_nodes.proofs.Nodes.{is_node_itself, is_node_same}

-- ---- lists and places

pub snoc_same : (xs ys : List (List ℕ)) (x y : List ℕ) → xs ++ x ∷ [] ≡ ys ++ y ∷ [] → (xs ≡ ys) × (x ≡ y)
snoc_same [] [] x y e = (refl, cc)
snoc_same [] (z ∷ ys) x y e = absurd (omega (arith, ap length e, length-append ys (y ∷ [])))
snoc_same (z ∷ xs) [] x y e = absurd (omega (arith, ap length e, length-append xs (x ∷ [])))
snoc_same (z ∷ xs) (w ∷ ys) x y e = let i = snoc_same xs ys x y (cc) in let h : z ≡ w = cc in (ap (λ l. l ++ xs) (ap (λ v. v ∷ []) h) ∙ ap (λ l. w ∷ l) i.0, i.1)

module _ {X : Type 0} where
  pub in_at : (xs : List X) (i : ℕ) (x : X) → slice_get xs i ≡ Some x → IsIn xs x
  in_at [] i x e = absurd (cc e)
  in_at (y ∷ xs) zero x e = inl (cc)
  in_at (y ∷ xs) (suc i) x e = inr (in_at xs i x e)

  pub at_in : (xs : List X) (x : X) → IsIn xs x → (i : ℕ) × (i < length xs) × (slice_get xs i ≡ Some x)
  at_in [] x h = absurd h
  at_in (y ∷ xs) x (inl e) = (0, omega arith, ap Some e)
  at_in (y ∷ xs) x (inr h) = let i = at_in xs x h in (suc i.0, omega (arith, i.1), i.2)

  pub at_left : (xs ys : List X) (i : ℕ) (x : X) → slice_get xs i ≡ Some x → slice_get (xs ++ ys) i ≡ Some x
  at_left [] ys i x e = absurd (cc e)
  at_left (y ∷ xs) ys zero x e = e
  at_left (y ∷ xs) ys (suc i) x e = at_left xs ys i x e

  pub at_cases : (xs ys : List X) (i : ℕ) (x : X) → slice_get (xs ++ ys) i ≡ Some x → (slice_get xs i ≡ Some x) ⊎ ((length xs ≤ i) × IsIn ys x)
  at_cases [] ys i x e = inr (omega arith, in_at ys i x e)
  at_cases (y ∷ xs) ys zero x e = inl e
  at_cases (y ∷ xs) ys (suc i) x e = elim (at_cases xs ys i x e) [ inl a ↦ inl a | inr a ↦ inr (omega (arith, a.0), a.1) ]

same_or_less : (b c : ℕ) → b ≤ c → (b ≡ c) ⊎ (b < c)
same_or_less zero zero le = inl refl
same_or_less zero (suc c) le = inr (omega arith)
same_or_less (suc b) zero le = absurd (omega arith)
same_or_less (suc b) (suc c) le = elim (same_or_less b c (omega arith)) [ inl e ↦ inl (ap suc e) | inr l ↦ inr (omega (arith, l)) ]

-- no path comes twice
abbrev pub AreApart : List TreeNode → Type 0
AreApart [] = Unit {0}
AreApart (x ∷ xs) = ((y : TreeNode) → IsIn xs y → x.path ≢ y.path) × AreApart xs

pub apart_append : (xs ys : List TreeNode) → AreApart xs → AreApart ys → ((x y : TreeNode) → IsIn xs x → IsIn ys y → x.path ≢ y.path) → AreApart (xs ++ ys)
apart_append [] ys a b h = b
apart_append (x ∷ xs) ys a b h = (
  λ y i. elim (in_cases xs ys y i) [ inl j ↦ a.0 y j | inr j ↦ h x y (inl refl) j ],
  apart_append xs ys a.1 b (λ z y i j. h z y (inr i) j),
)

pub once : (xs : List TreeNode) → AreApart xs → (i j : ℕ) (x y : TreeNode) → slice_get xs i ≡ Some x → slice_get xs j ≡ Some y → x.path ≡ y.path → i ≡ j
once [] a i j x y e f p = absurd (cc e)
once (z ∷ xs) a zero zero x y e f p = refl
once (z ∷ xs) a zero (suc j) x y e f p = let s : z ≡ x = cc in absurd (a.0 y (in_at xs j y f) (ap (λ w. w.path) s ∙ p))
once (z ∷ xs) a (suc i) zero x y e f p = let s : z ≡ y = cc in absurd (a.0 x (in_at xs i x e) (ap (λ w. w.path) s ∙ sym p))
once (z ∷ xs) a (suc i) (suc j) x y e f p = ap suc (once xs a.1 i j x y e f p)

-- ---- the levels

module _ (items : List PlainItem) (k : AreKept items) where
  abbrev m : ItemMap
  m = value_in items

  a : AreLinks m (links_of items)
  a = are_links items k

  -- what stands below a node
  below_led : (path : List (List ℕ)) (node : NodeId) (x : TreeNode) → IsIn (below items path node) x → (name : List ℕ) × (x.path ≡ path ++ name ∷ []) × (child m node name ≡ Some x.node) × (x.kind ≡ unwrap_or (object_kind m x.node) Dir)
  below_led path node x i =
      let l = map_in (node_below m path) (links_from (links_of items) node) x i in
      let f = filter_in (λ z. is_same_node z.parent node) (links_of items) l.0 l.1 in (
        l.0.name,
        ap (λ z. z.path) (sym l.2),
        ap (λ z. child m z l.0.name) (sym (is_node_same l.0.parent node f.1)) ∙ a.sound l.0 f.0 ∙ ap (λ z. Some z.node) l.2,
        ap (λ z. z.kind) (sym l.2) ∙ ap (λ z. unwrap_or (object_kind m z.node) Dir) l.2,
      )

  in_below : (path : List (List ℕ)) (node next : NodeId) (name : List ℕ) → child m node name ≡ Some next → IsIn (below items path node) (node_below m path (record { parent = node; name = name; node = next }))
  in_below path node next name e =
      let l : Link = record { parent = node; name = name; node = next } in
      in_map (node_below m path) (links_from (links_of items) node) l (in_filter (λ z. is_same_node z.parent node) (links_of items) l (a.whole l e) (is_node_itself node))

  -- each node of a level
  record IsAt (n : ℕ) (x : TreeNode) : Type 0 where
    way : node_at m x.path ≡ Some x.node
    count : length x.path ≡ suc n
    kind : x.kind ≡ unwrap_or (object_kind m x.node) Dir

  at_step : (n : ℕ) (path : List (List ℕ)) (node : NodeId) (x : TreeNode) → node_at m path ≡ Some node → length path ≡ n → IsIn (below items path node) x → IsAt n x
  at_step n path node x way long i =
      let l = below_led path node x i in
      record {
        way = ap (node_at m) l.1 ∙ more_step m path node l.0 x.node way l.2;
        count = omega (arith, ap length l.1, length-append path (l.0 ∷ []));
        kind = l.3;
      }

  at_level : (n : ℕ) (x : TreeNode) → IsIn (level_of items n) x → IsAt n x
  at_level zero x i = at_step 0 [] root_node x refl refl i
  at_level (suc n) x i =
      let y = flat_in (λ z. below items z.path z.node) (level_of items n) x i in
      let h = at_level n y.0 y.1 in
      at_step (suc n) y.0.path y.0.node x h.way h.count y.2

  -- its parent in the level above
  parent_of : (n : ℕ) (x : TreeNode) → IsIn (level_of items (suc n)) x → (y : TreeNode) × IsIn (level_of items n) y × ((name : List ℕ) × (x.path ≡ y.path ++ name ∷ []))
  parent_of n x i =
      let y = flat_in (λ z. below items z.path z.node) (level_of items n) x i in
      let l = below_led y.0.path y.0.node x y.2 in
      (y.0, y.1, (l.0, l.1))

  -- each path is in its level
  Found : ℕ → List (List ℕ) → List ℕ → NodeId → Type 0
  Found n above name node = (x : TreeNode) × IsIn (level_of items n) x × (x.path ≡ above ++ name ∷ []) × (x.node ≡ node)

  in_level : (n : ℕ) (above : List (List ℕ)) (name : List ℕ) (node : NodeId) → length above ≡ n → node_at m (above ++ name ∷ []) ≡ Some node → Found n above name node
  unfolding Found
  in_level zero above name node long e =
      let none : above ≡ [] = no_items above long in
      let l = last_step m above name node e in
      let root_first : root_node ≡ l.0 = cc (sym (subst (λ p. node_at m p ≡ Some l.0) none l.1)) in (
        node_below m [] (record { parent = root_node; name = name; node = node }),
        in_below [] root_node node name (ap (λ p. child m p name) root_first ∙ l.2),
        ap (λ p. p ++ name ∷ []) (sym none),
        refl,
      )
  in_level (suc n) above name node long e = by_end (ends_with above) (λ b c q short way. in_level n b c q short way)
    where
      by_end : EndsWith above → ((b : List (List ℕ)) (c : List ℕ) (q : NodeId) → length b ≡ n → node_at m (b ++ c ∷ []) ≡ Some q → Found n b c q) → Found (suc n) above name node
      by_end (inl is) up = absurd (omega (arith, ap length is))
      by_end (inr t) up =
          let l = last_step m above name node e in
          let short : length t.0 ≡ n = omega (arith, ap length t.2, length-append t.0 (t.1 ∷ [])) in
          let y = up t.0 t.1 l.0 short (subst (λ p. node_at m p ≡ Some l.0) t.2 l.1) in (
            node_below m y.0.path (record { parent = y.0.node; name = name; node = node }),
            in_flat (λ z. below items z.path z.node) (level_of items n) y.0 _ y.1 (in_below y.0.path y.0.node node name (ap (λ p. child m p name) y.3 ∙ l.2)),
            ap (λ p. p ++ name ∷ []) (y.2 ∙ sym t.2),
            refl,
          )

  -- ---- no path twice

  below_apart : (path : List (List ℕ)) (node : NodeId) (ls : List Link) → InOrder ls → AreApart (map (node_below m path) (links_from ls node))
  below_apart path node [] o = tt
  below_apart path node (l ∷ ls) o = by_test (is_same_node l.parent node) refl (below_apart path node ls o.1)
    where
      by_test : (b : Bool) → is_same_node l.parent node ≡ b → AreApart (map (node_below m path) (links_from ls node)) → AreApart (map (node_below m path) (cond b (l ∷ links_from ls node) (links_from ls node)))
      by_test false t ih = ih
      by_test true t ih = (apart, ih)
        where
          apart : (y : TreeNode) → IsIn (map (node_below m path) (links_from ls node)) y → path ++ l.name ∷ [] ≢ y.path
          apart y i e =
              let z = map_in (node_below m path) (links_from ls node) y i in
              let f = filter_in (λ w. is_same_node w.parent node) ls z.0 z.1 in
              let s = snoc_same path path l.name z.0.name (e ∙ ap (λ w. w.path) (sym z.2)) in
              not_before l z.0 (o.0 z.0 f.0) (is_node_same l.parent node t ∙ sym (is_node_same z.0.parent node f.1)) s.1

  all_apart : (ys : List TreeNode) → AreApart ys → AreApart (all_below items ys)
  all_apart [] h = tt
  all_apart (y ∷ ys) h = apart_append (below items y.path y.node) (all_below items ys) (below_apart y.path y.node (links_of items) (in_order items k.ascending)) (all_apart ys h.1) cross
    where
      cross : (x z : TreeNode) → IsIn (below items y.path y.node) x → IsIn (all_below items ys) z → x.path ≢ z.path
      cross x z i j e =
          let w = flat_in (λ v. below items v.path v.node) ys z j in
          let l = below_led y.path y.node x i in
          let r = below_led w.0.path w.0.node z w.2 in
          h.0 w.0 w.1 (snoc_same y.path w.0.path l.0 r.0 (sym l.1 ∙ e ∙ r.1)).0

  level_apart : (n : ℕ) → AreApart (level_of items n)
  level_apart zero = below_apart [] root_node (links_of items) (in_order items k.ascending)
  level_apart (suc n) = all_apart (level_of items n) (level_apart n)

  -- ---- all levels

  level_in : (n : ℕ) (x : TreeNode) → IsIn (levels items n) x → (j : ℕ) × (j < n) × IsIn (level_of items j) x
  level_in zero x i = absurd i
  level_in (suc n) x i = elim (in_cases (levels items n) (level_of items n) x i) [
    | inl h ↦ let j = level_in n x h in (j.0, omega (arith, j.1), j.2)
    | inr h ↦ (n, omega arith, h)
  ]

  in_levels : (n j : ℕ) (x : TreeNode) → j < n → IsIn (level_of items j) x → IsIn (levels items n) x
  in_levels zero j x less i = absurd (omega arith)
  in_levels (suc n) j x less i = elim (same_or_less j n (omega arith)) [
    | inl e ↦ in_right (levels items n) (level_of items n) x (subst (λ z. IsIn (level_of items z) x) e i)
    | inr l ↦ in_left (levels items n) (level_of items n) x (in_levels n j x l i)
  ]

  levels_apart : (n : ℕ) → AreApart (levels items n)
  levels_apart zero = tt
  levels_apart (suc n) = apart_append (levels items n) (level_of items n) (levels_apart n) (level_apart n) (λ x y i j e.
      let c = level_in n x i in
      let p = (at_level c.0 x c.2).count in
      let q = (at_level n y j).count in
      absurd (omega (arith, ap length e, c.1)))

  parent_before : (n i : ℕ) (x : TreeNode) (above : List (List ℕ)) (name : List ℕ) → slice_get (levels items n) i ≡ Some x → x.path ≡ above ++ name ∷ [] → above ≢ []
      → (j : ℕ) × (y : TreeNode) × (j < i) × (slice_get (levels items n) j ≡ Some y) × (y.path ≡ above)
  parent_before zero i x above name e is some = absurd (cc e)
  parent_before (suc n) i x above name e is some = by_part (at_cases (levels items n) (level_of items n) i x e) (λ f. parent_before n i x above name f is some)
    where
      in_last : (s : ℕ) → length (levels items s) ≤ i → IsIn (level_of items s) x → (j : ℕ) × (y : TreeNode) × (j < i) × (slice_get (levels items (suc s)) j ≡ Some y) × (y.path ≡ above)
      in_last zero long h = absurd (some (no_items above (omega (arith, (at_level 0 x h).count, ap length is, length-append above (name ∷ [])))))
      in_last (suc s) long h =
          let y = parent_of s x h in
          let same = snoc_same y.0.path above y.2.0 name (sym y.2.1 ∙ is) in
          let j = at_in (levels items (suc s)) y.0 (in_levels (suc s) s y.0 (omega arith) y.1) in
          (j.0, y.0, omega (arith, j.1), at_left (levels items (suc s)) (level_of items (suc s)) j.0 y.0 j.2, same.0)

      by_part : (slice_get (levels items n) i ≡ Some x) ⊎ ((length (levels items n) ≤ i) × IsIn (level_of items n) x) → (slice_get (levels items n) i ≡ Some x → (j : ℕ) × (y : TreeNode) × (j < i) × (slice_get (levels items n) j ≡ Some y) × (y.path ≡ above))
          → (j : ℕ) × (y : TreeNode) × (j < i) × (slice_get (levels items (suc n)) j ≡ Some y) × (y.path ≡ above)
      by_part (inl f) up = let p = up f in (p.0, p.1, p.2, at_left (levels items n) (level_of items n) p.0 p.1 p.3, p.4)
      by_part (inr f) up = in_last n f.0 f.1

  -- the kind of what a child leads to
  kind_told : Stands m → (n : ℕ) (x : TreeNode) → IsAt n x → object_kind m x.node ≡ Some x.kind
  kind_told s n x h = by_end (ends_with x.path)
    where
      by_end : EndsWith x.path → object_kind m x.node ≡ Some x.kind
      by_end (inl is) = absurd (omega (arith, h.count, ap length is))
      by_end (inr t) =
          let l = last_step m t.0 t.1 x.node (subst (λ p. node_at m p ≡ Some x.node) t.2 h.way) in
          let o = s.objects l.0 t.1 x.node l.2 in
          o.1 ∙ ap Some (sym (h.kind ∙ ap (λ z. unwrap_or z Dir) o.1))

  pub are_tree_nodes : Stands m → (n : ℕ) → ((path : List (List ℕ)) (node : NodeId) → node_at m path ≡ Some node → length path ≤ n) → AreTreeNodes m (levels items n)
  unfolding Found
  are_tree_nodes s n short = record {
    node = λ i x e. let l = level_in n x (in_at (levels items n) i x e) in (at_level l.0 x l.2).way;
    kind = λ i x e. let l = level_in n x (in_at (levels items n) i x e) in kind_told s l.0 x (at_level l.0 x l.2);
    whole = λ above name node e.
        let f = in_level (length above) above name node refl e in
        let less : length above < n = omega (arith, short (above ++ name ∷ []) node e, length-append above (name ∷ [])) in
        let i = at_in (levels items n) f.0 (in_levels n (length above) f.0 less f.1) in
        (i.0, f.0, i.2, f.2);
    once = λ i j x y e f p. once (levels items n) (levels_apart n) i j x y e f p;
    named = λ i x e none. let l = level_in n x (in_at (levels items n) i x e) in absurd (omega (arith, (at_level l.0 x l.2).count, ap length none));
    parent = λ i x above name e is some. parent_before n i x above name e is some;
  }
