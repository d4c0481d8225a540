-- Items in memory: what stands under a key after one more item, and that items stay in order.
use Rattle.std.proofs.Common.{◌≡◌, ◌≢◌, List, [], ◌∷◌, refl, sym, ap, subst, ◌∙◌, Bool, true, false, cond}
use Rattle.std.specs.Prelude.{Option, Some, None, option_map, All, IsTrue}
use Rattle.std.specs.Ordering.{is_eq, match_ordering}
use Rattle.std.specs.declared.cmp.Ordering.{Ordering}
use Rattle.std.specs.declared.cmp.Ordering.TheVariants.{Less, Equal, Greater}
use Rattle.std.specs.BTreeMap.{BTreeMap, get, insert_entry, is_at, IsOrdered}
use Rattle.std.specs.Map.{lookup, remove_entry, keys_of}
use Rattle.std.specs.List.{AllByRecursion}
use Rattle.std.specs.List.Sorted.{IsStrictlySortedBy}
use Rattle.std.proofs.lemmas.List.Elements.{All-nil, All-cons, All-head, All-tail}
use Rattle.fx_item.specs.Item.{PlainKey, ObjectKey, AttributeKey, ExtentKey, ChildKey, GraveKey, AllocationKey, PlainValue, GoneValue, DirectoryValue, FileValue, ChildValue, PlainItem, IsNameItem, Suits, is_name_key, key_of, value_of, item_of}
use Rattle.fx_item.specs.Look.{ItemMap, after, value_in, value_of_entry}
use Rattle.fx_item.specs.Order.{key_cmp}
use Rattle.fx_item.specs.Overlay.{AtKey, Entry, covers, entry_in, says}
use Rattle.fx_item.specs.declared.item.Item.{Item}
use Rattle.fx_item.specs.declared.item.Key.{Key}
use Rattle.fx_item.specs.declared.item.Key.TheVariants as keys
use Rattle.fx_item.specs.declared.item.Value.{Value}
use Rattle.fx_item.specs.declared.item.Value.TheVariants as values
use Rattle.fx_nodes.specs.Table.{AreKept, items_in}
use Rattle.fx_item.proofs.KeyOrder.{keys_exact}
use Rattle.fx_nodes.proofs.Keys.{at, at_back, covers_at, item_keys, same_at}

abbrev pub Entries : Type 0
Entries = List (Key × Value)

-- the order of keys in memory
abbrev pub order : Key → Key → Ordering
order j k = key_cmp (key_of j) (key_of k)

-- ---- what stands under a key

-- the key in memory
key_for : (q : PlainKey) → (k : Key) × (key_of k ≡ q)
key_for (ObjectKey s i) = (keys.Object s i, refl)
key_for (AttributeKey s i name) = (keys.Attribute s i name, refl)
key_for (ExtentKey s i start stop) = (keys.Extent s i start stop, refl)
key_for (ChildKey s i name) = (keys.Child s i name, refl)
key_for (GraveKey s i) = (keys.Grave s i, refl)
key_for (AllocationKey start stop) = (keys.Allocation start stop, refl)

pub value_in-lookup : (es : Entries) (k : Key) → value_in (items_in es) (key_of k) ≡ option_map value_of (lookup (is_at (order k)) es)
value_in-lookup [] k = refl
value_in-lookup (e ∷ es) k =
    ap (λ b. cond b (Some (value_of e.1)) (value_in (items_in es) (key_of k))) (at_back (key_of e.0) (key_of k)) ∙ by_test (at (key_of k) (key_of e.0)) (value_in-lookup es k)
  where
    by_test : (b : Bool) → value_in (items_in es) (key_of k) ≡ option_map value_of (lookup (is_at (order k)) es)
        → cond b (Some (value_of e.1)) (value_in (items_in es) (key_of k)) ≡ option_map value_of (cond b (Some e.1) (lookup (is_at (order k)) es))
    by_test true ih = refl
    by_test false ih = ih

-- what a value leaves under its key
abbrev pub left_by : PlainValue → Option PlainValue
left_by GoneValue = None
left_by value = Some value

entry_left : (x : PlainItem) (q : PlainKey) → IsNameItem x → value_of_entry (entry_in x.key x.value (AtKey q)) ≡ left_by x.value
entry_left x q h = by_parts x.key x.value h.kind h.item.value
  where
    by_parts : (key : PlainKey) (value : PlainValue) → IsTrue (is_name_key key) → Suits key value → value_of_entry (entry_in key value (AtKey q)) ≡ left_by value
    by_parts (ObjectKey s i) GoneValue n k = refl
    by_parts (ObjectKey s i) DirectoryValue n k = refl
    by_parts (ObjectKey s i) (FileValue len) n k = refl
    by_parts (ObjectKey s i) _ n k = absurd k
    by_parts (ChildKey s i name) GoneValue n k = refl
    by_parts (ChildKey s i name) (ChildValue t j) n k = refl
    by_parts (ChildKey s i name) _ n k = absurd k
    by_parts _ value n k = absurd (cc n)

pub gone_left : (v : Value) → v ≡ values.Gone → None ≡ left_by (value_of v)
gone_left v e = ap (λ w. left_by (value_of w)) (sym e)

-- a value that is no tombstone
pub alive : (v : Value) → (v ≡ values.Gone → ⊥) → (value_of v ≢ GoneValue) × (Some (value_of v) ≡ left_by (value_of v))
alive values.Gone ne = absurd (ne refl)
alive values.Dir ne = (λ e. cc, refl)
alive (values.File n) ne = (λ e. cc, refl)
alive (values.Attribute text) ne = (λ e. cc, refl)
alive (values.Child t j) ne = (λ e. cc, refl)
alive values.Waiting ne = (λ e. cc, refl)
alive (values.Extent block sums) ne = (λ e. cc, refl)
alive values.Taken ne = (λ e. cc, refl)

-- what stands after one item
pub after_one : (m : ItemMap) (x : PlainItem) (q : PlainKey) → IsNameItem x → after m (x ∷ []) q ≡ cond (at x.key q) (left_by x.value) (m q)
after_one m x q h =
    ap (λ b. elim (cond b (Some (entry_in x.key x.value (AtKey q))) None) [ Some entry ↦ value_of_entry entry | None ↦ m q ]) (covers_at x.key q h.kind) ∙ by_test (at x.key q)
  where
    by_test : (b : Bool) → elim (cond b (Some (entry_in x.key x.value (AtKey q))) None) [ Some entry ↦ value_of_entry entry | None ↦ m q ] ≡ cond b (left_by x.value) (m q)
    by_test true = entry_left x q h
    by_test false = refl

module _ (m n : BTreeMap Key Value) (x : Item) (w : Option Value) (is : option_map value_of w ≡ left_by (value_of x.value))
    (updates : (q : Key) → get order n q ≡ cond (is_at (order x.key) q) w (get order m q)) where
  changed : (q : Key) → value_in (items_in n.entries) (key_of q) ≡ cond (at (key_of x.key) (key_of q)) (left_by (value_of x.value)) (value_in (items_in m.entries) (key_of q))
  changed q = value_in-lookup n.entries q ∙ ap (option_map value_of) (updates q) ∙ by_test (at (key_of x.key) (key_of q))
    where
      by_test : (b : Bool) → option_map value_of (cond b w (get order m q)) ≡ cond b (left_by (value_of x.value)) (value_in (items_in m.entries) (key_of q))
      by_test true = is
      by_test false = sym (value_in-lookup m.entries q)

  -- a change of the map at one key is one item more
  pub one_more : IsNameItem (item_of x) → (q : PlainKey) → value_in (items_in n.entries) q ≡ after (value_in (items_in m.entries)) (item_of x ∷ []) q
  one_more h q =
      let k = key_for q in
      subst (λ z. value_in (items_in n.entries) z ≡ cond (at (key_of x.key) z) (left_by (value_of x.value)) (value_in (items_in m.entries) z)) k.1 (changed k.0)
      ∙ sym (after_one (value_in (items_in m.entries)) (item_of x) q h)

-- ---- one list after another

-- a later item says nothing of the first one's key
apart_says : (x : PlainItem) (rest : List PlainItem) (q : PlainKey) → All IsNameItem rest → AllByRecursion (λ k. key_cmp x.key k ≡ Less) (item_keys rest) → at x.key q ≡ true → says rest (AtKey q) ≡ None
apart_says x [] q named h e = refl
apart_says x (y ∷ rest) q named h e =
    let other : at y.key q ≡ false = ap (at y.key) (sym (same_at x.key q e)) ∙ at_back y.key x.key ∙ ap is_eq h.0 in
    ap (λ b. cond b (Some (entry_in y.key y.value (AtKey q))) (says rest (AtKey q))) (covers_at y.key q (All-head IsNameItem y rest named).kind ∙ other)
    ∙ apart_says x rest q (All-tail IsNameItem y rest named) h.1 e

-- what is left where a list says something, and where it does not
abbrev told : Option PlainValue → Option (Option Entry) → Option PlainValue
told before said = elim said [ Some entry ↦ value_of_entry entry | None ↦ before ]

module _ (m : ItemMap) (x : PlainItem) (rest : List PlainItem) (q : PlainKey) where
  abbrev entry : Option Entry
  entry = entry_in x.key x.value (AtKey q)

  abbrev others : Option (Option Entry)
  others = says rest (AtKey q)

  -- a list is its first item, and then the others
  pub after_more : All IsNameItem (x ∷ rest) → IsStrictlySortedBy key_cmp (item_keys (x ∷ rest)) → after (after m (x ∷ [])) rest q ≡ after m (x ∷ rest) q
  unfolding IsStrictlySortedBy
  after_more named s = by_test (at x.key q) refl
    where
      covered : covers x.key (AtKey q) ≡ at x.key q
      covered = covers_at x.key q (All-head IsNameItem x rest named).kind

      by_test : (b : Bool) → at x.key q ≡ b → after (after m (x ∷ [])) rest q ≡ after m (x ∷ rest) q
      by_test true e =
          ap (told (after m (x ∷ []) q)) (apart_says x rest q (All-tail IsNameItem x rest named) s.0 e)
          ∙ ap (λ b. told (m q) (cond b (Some entry) None)) (covered ∙ e)
          ∙ sym (ap (λ b. told (m q) (cond b (Some entry) others)) (covered ∙ e))
      by_test false e =
          ap (λ v. told v others) (ap (λ b. told (m q) (cond b (Some entry) None)) (covered ∙ e))
          ∙ sym (ap (λ b. told (m q) (cond b (Some entry) others)) (covered ∙ e))

-- what a list leaves depends on what stood before key by key
pub after_same : (m n : ItemMap) (xs : List PlainItem) (q : PlainKey) → m q ≡ n q → after m xs q ≡ after n xs q
after_same m n xs q e = ap (λ o. told o (says xs (AtKey q))) e

-- ---- items stay in order

items_sorted : (es : Entries) → IsStrictlySortedBy order (keys_of es) → IsStrictlySortedBy key_cmp (item_keys (items_in es))
unfolding IsStrictlySortedBy
items_sorted [] s = tt
items_sorted (e ∷ es) s = (each es s.0, items_sorted es s.1)
  where
    each : (fs : Entries) → AllByRecursion (λ k. order e.0 k ≡ Less) (keys_of fs) → AllByRecursion (λ k. key_cmp (key_of e.0) k ≡ Less) (item_keys (items_in fs))
    each [] h = tt
    each (f ∷ fs) h = (h.0, each fs h.1)

module _ (P : PlainItem → Type 0) where
  kept_by_remove : (test : Key → Bool) (es : Entries) → All P (items_in es) → All P (items_in (remove_entry test es))
  kept_by_remove test [] h = h
  kept_by_remove test (e ∷ es) h = by_test (test e.0) (kept_by_remove test es (All-tail P _ _ h))
    where
      by_test : (b : Bool) → All P (items_in (remove_entry test es)) → All P (items_in (cond b es (e ∷ remove_entry test es)))
      by_test true ih = All-tail P (record { key = key_of e.0; value = value_of e.1 }) (items_in es) h
      by_test false ih = All-cons P (record { key = key_of e.0; value = value_of e.1 }) (items_in (remove_entry test es)) (All-head P (record { key = key_of e.0; value = value_of e.1 }) (items_in es) h) ih

  kept_by_insert : (k : Key) (v : Value) (es : Entries) → P (record { key = key_of k; value = value_of v }) → All P (items_in es) → All P (items_in (insert_entry order es k v))
  kept_by_insert k v [] p h = All-cons P (record { key = key_of k; value = value_of v }) [] p h
  kept_by_insert k v (e ∷ es) p h = by_order (order k e.0) refl (kept_by_insert k v es p (All-tail P _ _ h))
    where
      by_order : (o : Ordering) → order k e.0 ≡ o → All P (items_in (insert_entry order es k v)) → All P (items_in (match_ordering o ((k, v) ∷ e ∷ es) ((e.0, v) ∷ es) (e ∷ insert_entry order es k v)))
      by_order Less is ih = All-cons P (record { key = key_of k; value = value_of v }) (items_in (e ∷ es)) p h
      by_order Equal is ih = All-cons P (record { key = key_of e.0; value = value_of v }) (items_in es) (subst (λ z. P (record { key = z; value = value_of v })) (keys_exact (key_of k) (key_of e.0) is) p) (All-tail P (record { key = key_of e.0; value = value_of e.1 }) (items_in es) h)
      by_order Greater is ih = All-cons P (record { key = key_of e.0; value = value_of e.1 }) (items_in (insert_entry order es k v)) (All-head P (record { key = key_of e.0; value = value_of e.1 }) (items_in es) h) ih

pub kept_empty : AreKept (items_in [])
unfolding IsStrictlySortedBy
kept_empty = record { ascending = tt; each = All-nil IsNameItem; alive = All-nil (λ x. x.value ≢ GoneValue) }

pub kept_removed : (m n : BTreeMap Key Value) (test : Key → Bool) → AreKept (items_in m.entries) → n.entries ≡ remove_entry test m.entries → IsOrdered order n → AreKept (items_in n.entries)
kept_removed m n test h e o = record {
  ascending = items_sorted n.entries o;
  each = subst (λ es. All IsNameItem (items_in es)) (sym e) (kept_by_remove IsNameItem test m.entries h.each);
  alive = subst (λ es. All (λ x. x.value ≢ GoneValue) (items_in es)) (sym e) (kept_by_remove (λ x. x.value ≢ GoneValue) test m.entries h.alive);
}

pub kept_inserted : (m n : BTreeMap Key Value) (k : Key) (v : Value) → AreKept (items_in m.entries) → n.entries ≡ insert_entry order m.entries k v → IsOrdered order n
    → IsNameItem (record { key = key_of k; value = value_of v }) → value_of v ≢ GoneValue → AreKept (items_in n.entries)
kept_inserted m n k v h e o item alive = record {
  ascending = items_sorted n.entries o;
  each = subst (λ es. All IsNameItem (items_in es)) (sym e) (kept_by_insert IsNameItem k v m.entries item h.each);
  alive = subst (λ es. All (λ x. x.value ≢ GoneValue) (items_in es)) (sym e) (kept_by_insert (λ x. x.value ≢ GoneValue) k v m.entries alive h.alive);
}
