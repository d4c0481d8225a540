-- The names of items that stand: they are live items, listed, and a table that is kept.
use Rattle.std.proofs.Common.{◌≡◌, ◌≢◌, inl, inr, ℕ, Bool, true, false, cond, List, [], ◌∷◌, map, refl, sym, ap, subst, ◌∙◌}
use Rattle.std.specs.Prelude.{Option, Some, None, Contains, All, IsTrue, is_some}
use Rattle.std.specs.Ordering.{ordering_then}
use Rattle.std.specs.declared.cmp.Ordering.TheVariants.{Less}
use Rattle.std.specs.List.{AllByRecursion, filter}
use Rattle.std.specs.List.Sorted.{IsStrictlySortedBy}
use Rattle.std.proofs.lemmas.List.Elements.{All-nil, All-cons}
use Rattle.fx_item.specs.Item.{PlainKey, ObjectKey, AttributeKey, ExtentKey, ChildKey, GraveKey, AllocationKey, PlainValue, GoneValue, PlainItem, IsItem, IsNameItem, is_name_key}
use Rattle.fx_item.specs.Look.{AllApart, ItemMap, is_gone, is_point_key, value_in}
use Rattle.fx_item.specs.Order.{key_cmp}
use Rattle.fx_item.specs.Place.{Below, place_cmp, begins, ends}
use Rattle.fx_item.proofs.Between.{not_empty}
use Rattle.fx_item.proofs.KeyPlaces.{by_places}
use Rattle.fx_item.proofs.PlaceOrder.{below_then}
use Rattle.fx_namespace.specs.Wrong.{AreLiveItems}
use Rattle.fx_nodes.specs.Lists.{IsIn}
use Rattle.fx_nodes.specs.Table.{AreKept}
use Rattle.fx_nodes.proofs.Keys.{item_keys}
use Rattle.fx_nodes.proofs.Links.{found, stands}
use Rattle.fx_nodes.proofs.Lists.{contains_from, filter_in, in_filter, in_map}
use Rattle.fx_contents.specs.Points.{Points, named, unless_waiting, value_under}
use Rattle.fx_sound.specs.Image.{AreStanding, points_in}
use Rattle.fx_sound.proofs.Listed.{alive_in, apart_tail, good_in, head_apart, value_listed, value_stands}

-- ---- the names, and what stands under a key

unhidden : (grave value : Option PlainValue) (v : PlainValue) → unless_waiting grave value ≡ Some v → (grave ≡ None) × (value ≡ Some v)
unhidden None value v e = (refl, e)
unhidden (Some g) value v e = absurd (cc e)

-- what the names see stands under the key, which is one of a name
pub named_stands : (m : Points) (key : PlainKey) (v : PlainValue) → named m key ≡ Some v → (value_under m key ≡ Some v) × IsTrue (is_name_key key)
named_stands m (ObjectKey s i) v e = ((unhidden (value_under m (GraveKey s i)) (value_under m (ObjectKey s i)) v e).1, refl)
named_stands m (ChildKey s i name) v e = (e, refl)
named_stands m (AttributeKey s i name) v e = absurd (cc e)
named_stands m (ExtentKey s i a b) v e = absurd (cc e)
named_stands m (GraveKey s i) v e = absurd (cc e)
named_stands m (AllocationKey a b) v e = absurd (cc e)

name_point : (key : PlainKey) → IsTrue (is_name_key key) → is_point_key key ≡ true
name_point (ObjectKey s i) h = refl
name_point (ChildKey s i name) h = refl
name_point (AttributeKey s i name) h = absurd (cc h)
name_point (ExtentKey s i a b) h = absurd (cc h)
name_point (GraveKey s i) h = absurd (cc h)
name_point (AllocationKey a b) h = absurd (cc h)

pub same_option : {A : Type 0} (a b : Option A) → ((v : A) → a ≡ Some v → b ≡ Some v) → ((v : A) → b ≡ Some v → a ≡ Some v) → a ≡ b
same_option (Some v) b to back = sym (to v refl)
same_option None None to back = refl
same_option None (Some v) to back = back v refl

some_is : {A : Type 0} (o : Option A) → is_some o ≡ true → (v : A) × (o ≡ Some v)
some_is (Some v) e = (v, refl)
some_is None e = absurd (cc e)

-- ---- lists in order

less : (x y : PlainItem) → IsItem x → Below (begins x.key) (begins y.key) → key_cmp x.key y.key ≡ Less
less x y good below = sym (by_places x.key y.key) ∙ ap (λ o. ordering_then o (place_cmp (ends x.key) (ends y.key))) below.holds

keys_above : (x : PlainItem) (ys : List PlainItem) → ((y : PlainItem) → IsIn ys y → key_cmp x.key y.key ≡ Less) → AllByRecursion (λ q. key_cmp x.key q ≡ Less) (item_keys ys)
keys_above x [] h = tt
keys_above x (y ∷ ys) h = (h y (inl refl), keys_above x ys (λ z i. h z (inr i)))

sorted_none : IsStrictlySortedBy key_cmp (item_keys [])
unfolding IsStrictlySortedBy
sorted_none = tt

module _ (p : PlainItem → Bool) where
  sorted_step : (x : PlainItem) (xs : List PlainItem) (b : Bool) → ((y : PlainItem) → IsIn xs y → key_cmp x.key y.key ≡ Less) → IsStrictlySortedBy key_cmp (item_keys (filter p xs))
      → IsStrictlySortedBy key_cmp (item_keys (cond b (x ∷ filter p xs) (filter p xs)))
  unfolding IsStrictlySortedBy
  sorted_step x xs true above sorted = (keys_above x (filter p xs) (λ y i. above y (filter_in p xs y i).0), sorted)
  sorted_step x xs false above sorted = sorted

  pub sorted_filter : (xs : List PlainItem) → AllApart xs → IsStrictlySortedBy key_cmp (item_keys (filter p xs))
  sorted_filter [] a = sorted_none
  sorted_filter (x ∷ xs) a = sorted_step x xs (p x) (λ y i. less x y (a.good 0 x refl) (below_then (not_empty x.key (a.good 0 x refl).key) (head_apart x xs a y i))) (sorted_filter xs (apart_tail x xs a))

all_in : {X : Type 0} (P : X → Type 0) (xs : List X) → ((x : X) → IsIn xs x → P x) → All P xs
all_in P [] h = All-nil P
all_in P (x ∷ xs) h = All-cons P x xs (h x (inl refl)) (all_in P xs (λ y i. h y (inr i)))

module _ (items : List PlainItem) (s : AreStanding items) where
  -- the items that the names see
  pub names_in : List PlainItem
  names_in = filter (λ x. is_some (named (points_in items) x.key)) items

  pub named_listed : (key : PlainKey) (v : PlainValue) → named (points_in items) key ≡ Some v → IsIn items (record { key = key; value = v })
  named_listed key v e = value_listed items s key v (named_stands (points_in items) key v e).0

  -- ---- live items, all of them listed

  pub live_names : AreLiveItems (named (points_in items))
  live_names = record {
    item = λ key v e. record { item = good_in items s (record { key = key; value = v }) (named_listed key v e); kind = (named_stands (points_in items) key v e).1 };
    alive = λ key e. let q : true ≡ false = alive_in items s (record { key = key; value = GoneValue }) (named_listed key GoneValue e) in cc;
  }

  pub keys_listed : (key : PlainKey) (v : PlainValue) → named (points_in items) key ≡ Some v → Contains (item_keys items) key
  keys_listed key v e = contains_from (item_keys items) key (in_map (λ x. x.key) items (record { key = key; value = v }) (named_listed key v e))

  -- ---- a table that is kept

  seen_item : (x : PlainItem) → IsIn (filter (λ x. is_some (named (points_in items) x.key)) items) x → IsIn items x × (named (points_in items) x.key ≡ Some x.value)
  seen_item x i =
      let f = filter_in (λ (x : PlainItem). is_some (named (points_in items) x.key)) items x i in
      let v = some_is (named (points_in items) x.key) f.1 in
      let n = named_stands (points_in items) x.key v.0 v.1 in
      let same : Some v.0 ≡ Some x.value = sym n.0 ∙ value_stands items s x f.0 (name_point x.key n.1) in
      (f.0, v.1 ∙ same)

  seen_name : (x : PlainItem) → IsIn (filter (λ x. is_some (named (points_in items) x.key)) items) x → IsNameItem x
  seen_name x i = let f = seen_item x i in record { item = good_in items s x f.0; kind = (named_stands (points_in items) x.key x.value f.1).1 }

  seen_alive : (x : PlainItem) → IsIn (filter (λ x. is_some (named (points_in items) x.key)) items) x → x.value ≢ GoneValue
  seen_alive x i e = let q : true ≡ false = sym (ap is_gone e) ∙ alive_in items s x (seen_item x i).0 in cc

  pub names_kept : AreKept names_in
  unfolding names_in
  names_kept = record {
    ascending = sorted_filter (λ (x : PlainItem). is_some (named (points_in items) x.key)) items s.apart;
    each = all_in IsNameItem names_in seen_name;
    alive = all_in (λ (x : PlainItem). x.value ≢ GoneValue) names_in seen_alive;
  }

  -- under each key stands what the names see
  names_value : (key : PlainKey) → value_in (filter (λ x. is_some (named (points_in items) x.key)) items) key ≡ named (points_in items) key
  names_value key = same_option (value_in (filter (λ x. is_some (named (points_in items) x.key)) items) key) (named (points_in items) key)
      (λ v e. (seen_item (record { key = key; value = v }) (found (filter (λ x. is_some (named (points_in items) x.key)) items) key v e)).1)
      (λ v e.
      let x : PlainItem = record { key = key; value = v } in
      stands (filter (λ x. is_some (named (points_in items) x.key)) items) x (sorted_filter (λ (x : PlainItem). is_some (named (points_in items) x.key)) items s.apart)
      (in_filter (λ (x : PlainItem). is_some (named (points_in items) x.key)) items x (named_listed key v e) (ap is_some e)))

  pub names_map : value_in names_in ≡ named (points_in items)
  unfolding names_in
  names_map = λ i key. names_value key i
