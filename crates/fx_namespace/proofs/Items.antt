-- What stands under a key after a list of items, and which numbers are used then.
use Rattle.std.proofs.Common.{◌≡◌, ◌≢◌, ◌⊎◌, inl, inr, ℕ, ◌+◌, ◌<◌, ◌≤◌, Bool, true, false, cond, List, [], ◌∷◌, ◌++◌, refl, sym, ap, ◌∙◌, max, arith}
use Rattle.std.specs.Prelude.{Option, Some, None, nat_eq, ◌==◌, ◌&&◌, All, IsTrue}
use Rattle.std.specs.List.{fold}
use Rattle.std.specs.Cmp.Lexicographic.{pointwise, same_text}
use Rattle.std.proofs.lemmas.Bool.{eqb-true, eq-eqb, and_parts, false_from_ne_true}
use Rattle.std.proofs.lemmas.List.Elements.{All-head, All-tail}
use Rattle.std.proofs.lemmas.List.Sums.{fold-append}
use Rattle.fx_item.specs.Item.{PlainKey, ObjectKey, AttributeKey, ExtentKey, ChildKey, GraveKey, AllocationKey, PlainValue, GoneValue, ExtentValue, PlainItem, is_name_key}
use Rattle.fx_item.specs.Overlay.{Entry, ValueEntry, BlockEntry, AtKey, same_key, covers, entry_in, says}
use Rattle.fx_item.specs.Look.{ItemMap, value_of_entry, after, after_all, no_items, key_id, key_store, value_id, value_store, next_id, next_store, next_id_after, next_store_after}
use Rattle.fx_namespace.specs.Commits.{IsBelow}

-- ---- keys

node_same : (s i t j : ℕ) → ((s == t) && (i == j)) ≡ true → (s ≡ t) × (i ≡ j)
node_same s i t j e = let p = and_parts (s == t) (i == j) e in (eqb-true s t p.0, eqb-true i j p.1)

-- keys that are the same one are equal
pub same_key_is : (a b : PlainKey) → same_key a b ≡ true → a ≡ b
same_key_is (ObjectKey s i) (ObjectKey t j) e = let n = node_same s i t j e in ap (λ z. ObjectKey z i) n.0 ∙ ap (ObjectKey t) n.1
same_key_is (AttributeKey s i x) (AttributeKey t j y) e =
    let p = and_parts ((s == t) && (i == j)) (pointwise nat_eq x y) e in
    let n = node_same s i t j p.0 in
    ap (λ z. AttributeKey z i x) n.0 ∙ ap (λ z. AttributeKey t z x) n.1 ∙ ap (AttributeKey t j) (same_text x y (sym p.1))
same_key_is (ChildKey s i x) (ChildKey t j y) e =
    let p = and_parts ((s == t) && (i == j)) (pointwise nat_eq x y) e in
    let n = node_same s i t j p.0 in
    ap (λ z. ChildKey z i x) n.0 ∙ ap (λ z. ChildKey t z x) n.1 ∙ ap (ChildKey t j) (same_text x y (sym p.1))
same_key_is (GraveKey s i) (GraveKey t j) e = let n = node_same s i t j e in ap (λ z. GraveKey z i) n.0 ∙ ap (GraveKey t) n.1
same_key_is _ _ e = absurd (cc)

node_itself : (s i : ℕ) → ((s == s) && (i == i)) ≡ true
node_itself s i = ap (λ b. b && (i == i)) (eq-eqb s s refl) ∙ eq-eqb i i refl

name_itself : (x : List ℕ) → pointwise nat_eq x x ≡ true
name_itself [] = refl
name_itself (b ∷ x) = ap (λ t. t && pointwise nat_eq x x) (eq-eqb b b refl) ∙ name_itself x

pub object_itself : (s i : ℕ) → same_key (ObjectKey s i) (ObjectKey s i) ≡ true
object_itself s i = node_itself s i

pub child_itself : (s i : ℕ) (x : List ℕ) → same_key (ChildKey s i x) (ChildKey s i x) ≡ true
child_itself s i x = ap (λ b. b && pointwise nat_eq x x) (node_itself s i) ∙ name_itself x

pub covers_itself : (key : PlainKey) → IsTrue (is_name_key key) → covers key (AtKey key) ≡ true
covers_itself (ObjectKey s i) n = object_itself s i
covers_itself (ChildKey s i x) n = child_itself s i x
covers_itself _ n = absurd (cc n)

pub covers_key : (a key : PlainKey) → covers a (AtKey key) ≡ same_key a key
covers_key (ObjectKey s i) key = refl
covers_key (AttributeKey s i x) key = refl
covers_key (ExtentKey s i start stop) key = refl
covers_key (ChildKey s i x) key = refl
covers_key (GraveKey s i) key = refl
covers_key (AllocationKey start stop) key = refl

-- a key that is another one is not covered
pub not_covers : (a key : PlainKey) → a ≢ key → covers a (AtKey key) ≡ false
not_covers a key ne = covers_key a key ∙ false_from_ne_true (same_key a key) (λ e. ne (same_key_is a key e))

-- ---- what stands after a list

abbrev IsOther : PlainKey → PlainItem → Type 0
IsOther key x = x.key ≢ key

says_none : (items : List PlainItem) (key : PlainKey) → All (IsOther key) items → says items (AtKey key) ≡ None
says_none [] key h = refl
says_none (x ∷ items) key h =
    ap (λ b. cond b (Some (entry_in x.key x.value (AtKey key))) (says items (AtKey key))) (not_covers x.key key (All-head (IsOther key) x items h))
    ∙ says_none items key (All-tail (IsOther key) x items h)

-- under a key of which the list says nothing stands what stood there
pub after_other : (m : ItemMap) (items : List PlainItem) (key : PlainKey) → All (IsOther key) items → after m items key ≡ m key
after_other m items key h = ap (λ o. elim o [ Some entry ↦ value_of_entry entry | None ↦ m key ]) (says_none items key h)

entry_value : (a : PlainKey) (v w : PlainValue) (key : PlainKey) → entry_in a v (AtKey key) ≡ Some (ValueEntry w) → v ≡ w
entry_value (ExtentKey s i start stop) (ExtentValue block sums) w key e = cc
entry_value a GoneValue w key e = absurd (cc)
entry_value a v w key e = cc

-- what a list says that stands under a key
abbrev Says : List PlainItem → PlainKey → PlainValue → Type 0
Says items key value = says items (AtKey key) ≡ Some (Some (ValueEntry value))

-- the first item of the list says it, or the others do
says_split : (x : PlainItem) (items : List PlainItem) (key : PlainKey) (value : PlainValue) → Says (x ∷ items) key value → ((x.key ≡ key) × (x.value ≡ value)) ⊎ Says items key value
says_split x items key value = by_test (covers x.key (AtKey key)) refl
  where
    by_test : (b : Bool) → covers x.key (AtKey key) ≡ b → cond b (Some (entry_in x.key x.value (AtKey key))) (says items (AtKey key)) ≡ Some (Some (ValueEntry value))
        → ((x.key ≡ key) × (x.value ≡ value)) ⊎ Says items key value
    by_test true c e = inl (same_key_is x.key key (sym (covers_key x.key key) ∙ c), entry_value x.key x.value value key (cc e))
    by_test false c e = inr e

abbrev Stood : ItemMap → List PlainItem → PlainKey → PlainValue → Type 0
Stood m items key value = Says items key value ⊎ (m key ≡ Some value)

stood : (m : ItemMap) (items : List PlainItem) (key : PlainKey) (value : PlainValue) → after m items key ≡ Some value → Stood m items key value
stood m items key value = by_word (says items (AtKey key)) refl
  where
    by_word : (o : Option (Option Entry)) → says items (AtKey key) ≡ o → elim o [ Some entry ↦ value_of_entry entry | None ↦ m key ] ≡ Some value → Stood m items key value
    by_word None f e = inr e
    by_word (Some None) f e = absurd (cc)
    by_word (Some (Some (ValueEntry v))) f e = inl (f ∙ ap (λ w. Some (Some (ValueEntry w))) (cc e))
    by_word (Some (Some (BlockEntry block sum))) f e = absurd (cc)

-- ---- numbers

pub next_id-least : (n : ℕ) (items : List PlainItem) → n ≤ next_id n items
next_id-least n [] = omega arith
next_id-least n (x ∷ items) = let h = next_id-least (max n (max (key_id x.key) (value_id x.value) + 1)) items in omega arith

pub next_store-least : (n : ℕ) (items : List PlainItem) → n ≤ next_store n items
next_store-least n [] = omega arith
next_store-least n (x ∷ items) = let h = next_store-least (max n (max (key_store x.key) (value_store x.value) + 1)) items in omega arith

pub next_id_after-least : (n : ℕ) (lists : List (List PlainItem)) → n ≤ next_id_after n lists
next_id_after-least n [] = omega arith
next_id_after-least n (items ∷ lists) = let h = next_id_after-least (next_id n items) lists in omega (arith, next_id-least n items)

pub next_store_after-least : (n : ℕ) (lists : List (List PlainItem)) → n ≤ next_store_after n lists
next_store_after-least n [] = omega arith
next_store_after-least n (items ∷ lists) = let h = next_store_after-least (next_store n items) lists in omega (arith, next_store-least n items)

-- one more list
pub next_id_after-more : (n : ℕ) (lists : List (List PlainItem)) (items : List PlainItem) → next_id_after n (lists ++ items ∷ []) ≡ next_id (next_id_after n lists) items
next_id_after-more n lists items = fold-append next_id n lists (items ∷ [])

pub next_store_after-more : (n : ℕ) (lists : List (List PlainItem)) (items : List PlainItem) → next_store_after n (lists ++ items ∷ []) ≡ next_store (next_store_after n lists) items
next_store_after-more n lists items = fold-append next_store n lists (items ∷ [])

-- a front of the lists leads no higher
pub next_id_after-front : (n : ℕ) (lists more : List (List PlainItem)) → next_id_after n lists ≤ next_id_after n (lists ++ more)
next_id_after-front n lists more = omega (arith, fold-append next_id n lists more, next_id_after-least (next_id_after n lists) more)

pub next_store_after-front : (n : ℕ) (lists more : List (List PlainItem)) → next_store_after n lists ≤ next_store_after n (lists ++ more)
next_store_after-front n lists more = omega (arith, fold-append next_store n lists more, next_store_after-least (next_store_after n lists) more)

-- what stands after one more list
pub after_all-more : (lists : List (List PlainItem)) (items : List PlainItem) → after_all (lists ++ items ∷ []) ≡ after (after_all lists) items
after_all-more lists items = fold-append after no_items lists (items ∷ [])

ids_below : (n : ℕ) (items : List PlainItem) (key : PlainKey) (value : PlainValue) → Says items key value → (key_id key < next_id n items) × (value_id value < next_id n items)
ids_below n [] key value e = absurd (cc)
ids_below n (x ∷ items) key value e =
    let next : ℕ = max n (max (key_id x.key) (value_id x.value) + 1) in
    elim (says_split x items key value e) [
      | inl a ↦
          let more : next ≤ next_id next items = next_id-least next items in
          let k : key_id x.key ≡ key_id key = ap key_id a.0 in
          let v : value_id x.value ≡ value_id value = ap value_id a.1 in
          (omega arith, omega arith)
      | inr a ↦ ids_below next items key value a
    ]

stores_below : (n : ℕ) (items : List PlainItem) (key : PlainKey) (value : PlainValue) → Says items key value → (key_store key < next_store n items) × (value_store value < next_store n items)
stores_below n [] key value e = absurd (cc)
stores_below n (x ∷ items) key value e =
    let next : ℕ = max n (max (key_store x.key) (value_store x.value) + 1) in
    elim (says_split x items key value e) [
      | inl a ↦
          let more : next ≤ next_store next items = next_store-least next items in
          let k : key_store x.key ≡ key_store key = ap key_store a.0 in
          let v : value_store x.value ≡ value_store value = ap value_store a.1 in
          (omega arith, omega arith)
      | inr a ↦ stores_below next items key value a
    ]

pub below_none : (id store : ℕ) → 1 ≤ id → 1 ≤ store → IsBelow no_items id store
below_none id store i s = record { root_id = i; root_store = s; key = λ key value e. absurd (cc e); value = λ key value e. absurd (cc e) }

-- higher numbers do as well
pub below_more : (m : ItemMap) (id store more_id more_store : ℕ) → id ≤ more_id → store ≤ more_store → IsBelow m id store → IsBelow m more_id more_store
below_more m id store more_id more_store i s b = record {
  root_id = let r = b.root_id in omega arith;
  root_store = let r = b.root_store in omega arith;
  key = λ key value e. let k = b.key key value e in (omega arith, omega arith);
  value = λ key value e. let v = b.value key value e in (omega arith, omega arith);
}

-- after one more list
pub below_after : (m : ItemMap) (id store : ℕ) (items : List PlainItem) → IsBelow m id store → IsBelow (after m items) (next_id id items) (next_store store items)
below_after m id store items b = record {
  root_id = old.root_id;
  root_store = old.root_store;
  key = λ key value e. elim (stood m items key value e) [
    | inl a ↦ ((ids_below id items key value a).0, (stores_below store items key value a).0)
    | inr a ↦ old.key key value a
  ];
  value = λ key value e. elim (stood m items key value e) [
    | inl a ↦ ((ids_below id items key value a).1, (stores_below store items key value a).1)
    | inr a ↦ old.value key value a
  ];
}
  where
    old : IsBelow m (next_id id items) (next_store store items)
    old = below_more m id store (next_id id items) (next_store store items) (next_id-least id items) (next_store-least store items) b

below_fold : (m : ItemMap) (id store : ℕ) (lists : List (List PlainItem)) → IsBelow m id store → IsBelow (fold after m lists) (next_id_after id lists) (next_store_after store lists)
below_fold m id store [] b = b
below_fold m id store (items ∷ lists) b = below_fold (after m items) (next_id id items) (next_store store items) lists (below_after m id store items b)

-- after all of the lists
pub below_all : (id store : ℕ) (lists : List (List PlainItem)) → 1 ≤ id → 1 ≤ store → IsBelow (after_all lists) (next_id_after id lists) (next_store_after store lists)
below_all id store lists i s = below_fold no_items id store lists (below_none id store i s)
