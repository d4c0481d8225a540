-- The children that items tell: which stand, in what order, and those of one node.
use Rattle.std.proofs.Common.{◌≡◌, ◌≢◌, ◌⊎◌, inl, inr, ℕ, ◌<◌, ◌≤◌, ◌+◌, List, [], ◌∷◌, ◌++◌, take, drop, length, get_or, refl, sym, ap, subst, ◌∙◌, Bool, true, false, cond, zero, suc, arith}
use Rattle.std.specs.Prelude.{Option, Some, None, IsTrue}
use Rattle.std.specs.Cmp.{tied_itself}
use Rattle.std.specs.Cmp.Lexicographic.{slice_cmp}
use Rattle.std.specs.List.{cons_option, AllByRecursion}
use Rattle.std.specs.List.Sorted.{IsStrictlySortedBy, IsPartitionedBy}
use Rattle.std.specs.Ordering.{is_eq, is_le, is_lt, nat_cmp, ordering_then}
use Rattle.std.specs.declared.cmp.Ordering.{Ordering}
use Rattle.std.specs.declared.cmp.Ordering.TheVariants.{Less, Equal, Greater}
use Rattle.std.proofs.lemmas.List.{append-nil, get_or-drop, get_or-take, length-take, length-drop, map-append, take-append-drop}
use Rattle.std.proofs.lemmas.List.Elements.{All-contains, filter-append}
use Rattle.fx_item.specs.Item.{PlainKey, ObjectKey, ChildKey, PlainValue, GoneValue, ChildValue, PlainItem, IsNameItem}
use Rattle.fx_item.specs.Look.{ItemMap, value_in}
use Rattle.fx_item.specs.LockKey.{key_cmp as node_cmp}
use Rattle.fx_item.specs.Order.{key_cmp}
use Rattle.fx_namespace.specs.Nodes.{NodeId, child, led_to}
use Rattle.fx_namespace.specs.Wrong.{AreLiveItems}
use Rattle.fx_namespace.proofs.Walks.{child_value}
use Rattle.fx_nodes.specs.Lists.{IsIn}
use Rattle.fx_nodes.specs.Links.{Link, link_at, links_of, is_same_node, links_from, links_in, link_of, object_at, objects_of}
use Rattle.fx_nodes.specs.Table.{AreKept}
use Rattle.fx_nodes.specs.declared.graph.Child.{Child}
use Rattle.fx_item.proofs.KeyOrder.{keys_total}
use Rattle.fx_nodes.proofs.Keys.{at, item_keys, same_at, at_itself}
use Rattle.fx_nodes.proofs.Lists.{contains_from, filter_map_in, in_filter_map, in_map}
use Rattle.fx_nodes.proofs.Nodes.{IsUpTo, is_node_at, is_node_same, less_after, less_apart, same_after, up_to_itself}

-- ---- what stands

found_step : (x : PlainItem) (xs : List PlainItem) (key : PlainKey) (v : PlainValue) (b : Bool) → at x.key key ≡ b → (value_in xs key ≡ Some v → IsIn xs (record { key = key; value = v }))
    → cond b (Some x.value) (value_in xs key) ≡ Some v → (x ≡ record { key = key; value = v }) ⊎ IsIn xs (record { key = key; value = v })
found_step x xs key v true t ih e = let k = same_at x.key key t in let w : x.value ≡ v = cc in inl (λ i. record { key = k i; value = w i })
found_step x xs key v false t ih e = inr (ih e)

-- what stands under a key is an item of the list
pub found : (xs : List PlainItem) (key : PlainKey) (v : PlainValue) → value_in xs key ≡ Some v → IsIn xs (record { key = key; value = v })
found [] key v e = absurd (cc e)
found (x ∷ xs) key v e = found_step x xs key v (at x.key key) refl (found xs key v) e

below_each : (k : PlainKey) (xs : List PlainItem) (x : PlainItem) → AllByRecursion (λ q. key_cmp k q ≡ Less) (item_keys xs) → IsIn xs x → key_cmp k x.key ≡ Less
below_each k [] x h i = absurd i
below_each k (y ∷ xs) x h (inl e) = subst (λ z. key_cmp k z.key ≡ Less) e h.0
below_each k (y ∷ xs) x h (inr i) = below_each k xs x h.1 i

-- an item of a list in order stands under its key
pub stands : (xs : List PlainItem) (x : PlainItem) → IsStrictlySortedBy key_cmp (item_keys xs) → IsIn xs x → value_in xs x.key ≡ Some x.value
unfolding IsStrictlySortedBy
stands [] x s i = absurd i
stands (y ∷ xs) x s (inl e) = ap (λ b. cond b (Some y.value) (value_in xs x.key)) (ap (λ z. at y.key z.key) (sym e) ∙ at_itself y.key) ∙ ap (λ z. Some z.value) e
stands (y ∷ xs) x s (inr i) = ap (λ b. cond b (Some y.value) (value_in xs x.key)) (ap is_eq (below_each y.key xs x s.0 i)) ∙ stands xs x s.1 i

pub are_items : (items : List PlainItem) → AreKept items → AreLiveItems (value_in items)
are_items items k = record {
  item = λ key value e. All-contains IsNameItem items (record { key = key; value = value }) k.each (contains_from items (record { key = key; value = value }) (found items key value e));
  alive = λ key e. All-contains (λ x. x.value ≢ GoneValue) items (record { key = key; value = GoneValue }) k.alive (contains_from items (record { key = key; value = GoneValue }) (found items key GoneValue e)) refl;
}

-- ---- children

pub link_key : Link → PlainKey
link_key l = ChildKey l.parent.store l.parent.id l.name

link_parts : (key : PlainKey) (value : PlainValue) (l : Link) → link_at key value ≡ Some l → (key ≡ link_key l) × (value ≡ ChildValue l.node.store l.node.id)
unfolding link_key
link_parts (ChildKey s i name) (ChildValue t j) l e =
    (ap (λ o. elim o [ Some z ↦ ChildKey z.parent.store z.parent.id z.name | None ↦ ChildKey s i name ]) e, ap (λ o. elim o [ Some z ↦ ChildValue z.node.store z.node.id | None ↦ GoneValue ]) e)
link_parts _ _ l e = absurd (cc e)

object_parts : (key : PlainKey) (node : NodeId) → object_at key ≡ Some node → key ≡ ObjectKey node.store node.id
object_parts (ObjectKey s i) node e = ap (λ o. elim o [ Some z ↦ ObjectKey z.store z.id | None ↦ ObjectKey s i ]) e
object_parts _ node e = absurd (cc e)

-- what the list of children says of the items
pub record AreLinks (m : ItemMap) (links : List Link) : Type 0 where
  pub sound : (l : Link) → IsIn links l → child m l.parent l.name ≡ Some l.node
  pub whole : (l : Link) → child m l.parent l.name ≡ Some l.node → IsIn links l

pub are_links : (items : List PlainItem) → AreKept items → AreLinks (value_in items) (links_of items)
unfolding link_key
are_links items k = record { sound = sound; whole = whole }
  where
    sound : (l : Link) → IsIn (links_of items) l → child (value_in items) l.parent l.name ≡ Some l.node
    sound l i =
        let x = filter_map_in (λ x. link_at x.key x.value) items l i in
        let p = link_parts x.0.key x.0.value l x.2 in
        ap led_to (ap (value_in items) (sym p.0) ∙ stands items x.0 k.ascending x.1 ∙ ap Some p.1)

    whole : (l : Link) → child (value_in items) l.parent l.name ≡ Some l.node → IsIn (links_of items) l
    whole l e =
        let v = child_value (value_in items) l.parent l.name l.node e in
        in_filter_map (λ x. link_at x.key x.value) items (record { key = link_key l; value = ChildValue l.node.store l.node.id }) l (found items (link_key l) (ChildValue l.node.store l.node.id) v) refl

-- the list of Objects
pub object_in : (items : List PlainItem) (node : NodeId) (value : PlainValue) → value_in items (ObjectKey node.store node.id) ≡ Some value → IsIn (objects_of items) node
object_in items node value e =
    in_filter_map (λ x. object_at x.key) items (record { key = ObjectKey node.store node.id; value = value }) node (found items (ObjectKey node.store node.id) value e) refl

pub object_stands : (items : List PlainItem) → AreKept items → (node : NodeId) → IsIn (objects_of items) node → (value : PlainValue) × (value_in items (ObjectKey node.store node.id) ≡ Some value)
object_stands items k node i =
    let x = filter_map_in (λ x. object_at x.key) items node i in
    (x.0.value, ap (value_in items) (sym (object_parts x.0.key node x.2)) ∙ stands items x.0 k.ascending x.1)

-- ---- in order

-- each child is before those after it
abbrev pub InOrder : List Link → Type 0
InOrder [] = Unit {0}
InOrder (l ∷ ls) = ((k : Link) → IsIn ls k → key_cmp (link_key l) (link_key k) ≡ Less) × InOrder ls

order_step : (x : PlainItem) (xs : List PlainItem) (o : Option Link) → link_at x.key x.value ≡ o → AllByRecursion (λ q. key_cmp x.key q ≡ Less) (item_keys xs) → InOrder (links_of xs) → InOrder (cons_option o (links_of xs))
order_step x xs None e h ih = ih
order_step x xs (Some l) e h ih = (before, ih)
  where
    before : (k : Link) → IsIn (links_of xs) k → key_cmp (link_key l) (link_key k) ≡ Less
    before k i =
        let y = filter_map_in (λ y. link_at y.key y.value) xs k i in
        ap (λ a. key_cmp a (link_key k)) (sym (link_parts x.key x.value l e).0) ∙ ap (key_cmp x.key) (sym (link_parts y.0.key y.0.value k y.2).0) ∙ below_each x.key xs y.0 h y.1

pub in_order : (items : List PlainItem) → IsStrictlySortedBy key_cmp (item_keys items) → InOrder (links_of items)
unfolding IsStrictlySortedBy
in_order [] s = tt
in_order (x ∷ xs) s = order_step x xs (link_at x.key x.value) refl s.0 (in_order xs s.1)

front_up_to : (a b r : Ordering) → ordering_then a (ordering_then b r) ≡ Less → IsTrue (is_le (ordering_then a b))
front_up_to Less b r e = refl
front_up_to Equal Less r e = refl
front_up_to Equal Equal r e = refl
front_up_to Equal Greater r e = cc
front_up_to Greater b r e = cc

pub parents_up_to : (l k : Link) → key_cmp (link_key l) (link_key k) ≡ Less → IsUpTo l.parent k.parent
unfolding link_key
parents_up_to l k e = front_up_to (nat_cmp l.parent.store k.parent.store) (nat_cmp l.parent.id k.parent.id) (slice_cmp nat_cmp (4 ∷ l.name) (4 ∷ k.name)) e

-- two children of one name and one node are not before one another
pub not_before : (l k : Link) → key_cmp (link_key l) (link_key k) ≡ Less → l.parent ≡ k.parent → l.name ≡ k.name → ⊥
unfolding link_key
not_before l k e p n =
    absurd (cc (sym e ∙ ap (λ z. key_cmp (link_key l) (ChildKey z.store z.id k.name)) (sym p) ∙ ap (λ z. key_cmp (link_key l) (ChildKey l.parent.store l.parent.id z)) (sym n) ∙ tied_itself keys_total (link_key l)))

-- ---- the children of one node, by halves

in_get : {X : Type 0} (xs : List X) (i : ℕ) (d : X) → i < length xs → IsIn xs (get_or xs i d)
in_get [] i d less = absurd (omega arith)
in_get (x ∷ xs) zero d less = inl refl
in_get (x ∷ xs) (suc i) d less = inr (in_get xs i d (omega arith))

pub rising : (xs : List Child) → InOrder (links_in xs) → (i j : ℕ) (d : Child) → i ≤ j → j < length xs → IsUpTo (get_or xs i d).parent (get_or xs j d).parent
rising [] o i j d le less = absurd (omega arith)
rising (x ∷ xs) o zero zero d le less = up_to_itself x.parent
rising (x ∷ xs) o zero (suc j) d le less = parents_up_to (link_of x) (link_of (get_or xs j d)) (o.0 (link_of (get_or xs j d)) (in_map link_of xs (get_or xs j d) (in_get xs j d (omega arith))))
rising (x ∷ xs) o (suc i) zero d le less = absurd (omega arith)
rising (x ∷ xs) o (suc i) (suc j) d le less = rising xs o.1 i j d (omega arith) (omega arith)

module _ (node : NodeId) where
  abbrev pub is_before : Child → Bool
  is_before c = is_lt (node_cmp c.parent node)

  abbrev pub is_of : Child → Bool
  is_of c = is_same_node c.parent node

  none_kept : (xs : List Child) → ((k : ℕ) (d : Child) → k < length xs → is_of (get_or xs k d) ≡ false) → links_from (links_in xs) node ≡ []
  none_kept [] h = refl
  none_kept (x ∷ xs) h = ap (λ b. cond b (link_of x ∷ links_from (links_in xs) node) (links_from (links_in xs) node)) (h 0 x (omega arith)) ∙ none_kept xs (λ k d less. h (suc k) d (omega arith))

  all_kept : (xs : List Child) → ((k : ℕ) (d : Child) → k < length xs → is_of (get_or xs k d) ≡ true) → links_from (links_in xs) node ≡ links_in xs
  all_kept [] h = refl
  all_kept (x ∷ xs) h =
      ap (λ b. cond b (link_of x ∷ links_from (links_in xs) node) (links_from (links_in xs) node)) (h 0 x (omega arith)) ∙ ap (λ ls. link_of x ∷ ls) (all_kept xs (λ k d less. h (suc k) d (omega arith)))

  pub halves : (xs : List Child) → InOrder (links_in xs) → IsPartitionedBy is_before xs
  halves xs o i j d le less t = less_after (get_or xs i d).parent (get_or xs j d).parent node (rising xs o i j d le less) t

  module _ (xs : List Child) (o : InOrder (links_in xs)) (s : ℕ)
      (lower : (k : ℕ) (d : Child) → 0 ≤ k → k < s → is_before (get_or xs k d) ≡ true)
      (upper : (k : ℕ) (d : Child) → s ≤ k → k < length xs → is_before (get_or xs k d) ≡ false) where
    pub rest_halves : IsPartitionedBy is_of (drop s xs)
    rest_halves i j d le less t =
        let short : s + j < length xs = omega (arith, length-drop s xs) in
        let at_j : (get_or xs (s + j) d).parent ≡ node = is_node_same (get_or xs (s + j) d).parent node (ap is_of (sym (get_or-drop s xs j d)) ∙ t) in
        let up : IsUpTo (get_or xs (s + i) d).parent node = subst (IsUpTo (get_or xs (s + i) d).parent) at_j (rising xs o (s + i) (s + j) d (omega arith) short) in
        ap is_of (get_or-drop s xs i d) ∙ is_node_at (get_or xs (s + i) d).parent node (same_after (get_or xs (s + i) d).parent node up (upper (s + i) d (omega arith) (omega arith)))

    module _ (n : ℕ)
        (same : (k : ℕ) (d : Child) → 0 ≤ k → k < n → is_of (get_or (drop s xs) k d) ≡ true)
        (later : (k : ℕ) (d : Child) → n ≤ k → k < length (drop s xs) → is_of (get_or (drop s xs) k d) ≡ false) where
      none_before : links_from (links_in (take s xs)) node ≡ []
      none_before = none_kept (take s xs) (λ k d less.
          let short : k < s = omega (arith, length-take s xs) in
          ap is_of (get_or-take s xs k d short) ∙ less_apart (get_or xs k d).parent node (lower k d (omega arith) short))

      all_within : links_from (links_in (take n (drop s xs))) node ≡ links_in (take n (drop s xs))
      all_within = all_kept (take n (drop s xs)) (λ k d less.
          let short : k < n = omega (arith, length-take n (drop s xs)) in
          ap is_of (get_or-take n (drop s xs) k d short) ∙ same k d (omega arith) short)

      none_after : links_from (links_in (drop n (drop s xs))) node ≡ []
      none_after = none_kept (drop n (drop s xs)) (λ k d less.
          ap is_of (get_or-drop n (drop s xs) k d) ∙ later (n + k) d (omega arith) (omega (arith, length-drop n (drop s xs))))

      in_parts : (ys zs : List Child) → links_from (links_in (ys ++ zs)) node ≡ links_from (links_in ys) node ++ links_from (links_in zs) node
      in_parts ys zs = ap (λ ls. links_from ls node) (map-append link_of ys zs) ∙ filter-append (λ l. is_same_node l.parent node) (links_in ys) (links_in zs)

      pub found_from : links_in (take n (drop s xs)) ≡ links_from (links_in xs) node
      found_from =
          sym (ap (λ ys. links_from (links_in ys) node) (sym (take-append-drop s xs))
          ∙ in_parts (take s xs) (drop s xs)
          ∙ ap (λ ls. ls ++ links_from (links_in (drop s xs)) node) none_before
          ∙ ap (λ ys. links_from (links_in ys) node) (sym (take-append-drop n (drop s xs)))
          ∙ in_parts (take n (drop s xs)) (drop n (drop s xs))
          ∙ ap (λ ls. links_from (links_in (take n (drop s xs))) node ++ ls) none_after
          ∙ append-nil (links_from (links_in (take n (drop s xs))) node)
          ∙ all_within)
