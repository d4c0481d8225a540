-- How many nodes the items of a stream make: no more than it has record bytes.
use Rattle.std.proofs.Common.{◌≡◌, ◌≢◌, ◌⊎◌, inl, inr, ℕ, suc, ◌+◌, ◌≤◌, Bool, true, false, cond, List, [], ◌∷◌, ◌++◌, length, length-append, map, refl, sym, ap, ◌∙◌, arith}
use Rattle.std.specs.Prelude.{Option, Some, None, filter, nat_le, slice_get, ◌==◌}
use Rattle.std.specs.List.{fold, sum_by}
use Rattle.std.proofs.lemmas.List.{length-map}
use Rattle.std.proofs.lemmas.List.Sums.{sum_by-append, sum_by-cons}
use Rattle.fx_item.specs.Item.{PlainKey, ObjectKey, AttributeKey, ExtentKey, ChildKey, GraveKey, AllocationKey, PlainValue, PlainItem, item_bytes, key_bytes, value_bytes}
use Rattle.fx_item.specs.Look.{ItemMap, after, after_all, no_items, value_of_entry}
use Rattle.fx_item.specs.Overlay.{AtKey, Entry, covers, entry_in, says}
use Rattle.fx_namespace.specs.Nodes.{Stands}
use Rattle.fx_namespace.proofs.Items.{covers_key, same_key_is}
use Rattle.fx_namespace.proofs.Walks.{node_path, object_value, one_path}
use Rattle.fx_nodes.specs.Tree.{AreTreeNodes}
use Rattle.fx_nodes.specs.declared.walk.TreeNode.{TreeNode}
use Rattle.fx_record.specs.Record.{DiscardRecord, PlainRecord, TransactionRecord, record_bytes}
use Rattle.fx_record.specs.Txns.{Dropped, First, Front, IsTxns, Nothing, all_bytes, onto, put, runs}
use Rattle.fx_record.proofs.Lengths.{sum_text}
use Rattle.fx_image.specs.Standing.{Transactions, items_after, lists_of}

-- ---- lists

abbrev IsIn : {A : Type 0} → List A → A → Type 0
IsIn [] x = ⊥
IsIn (y ∷ ys) x = (x ≡ y) ⊎ IsIn ys x

in_front : {A : Type 0} (xs ys : List A) (x : A) → IsIn xs x → IsIn (xs ++ ys) x
in_front [] ys x h = absurd h
in_front (y ∷ xs) ys x (inl e) = inl e
in_front (y ∷ xs) ys x (inr h) = inr (in_front xs ys x h)

in_back : {A : Type 0} (xs ys : List A) (x : A) → IsIn ys x → IsIn (xs ++ ys) x
in_back [] ys x h = h
in_back (y ∷ xs) ys x h = inr (in_back xs ys x h)

-- a list without one of its elements
record Without {A : Type 0} (ys : List A) (x : A) : Type 0 where
  rest : List A
  fewer : length ys ≡ suc (length rest)
  others : (y : A) → y ≢ x → IsIn ys y → IsIn rest y

without : {A : Type 0} (ys : List A) (x : A) → IsIn ys x → Without ys x
without [] x h = absurd h
without (y ∷ ys) x (inl e) = record {
  rest = ys;
  fewer = refl;
  others = λ z ne h. elim h [ inl f ↦ absurd (ne (f ∙ sym e)) | inr k ↦ k ];
}
without (y ∷ ys) x (inr h) =
    let w = without ys x h in
    record {
      rest = y ∷ w.rest;
      fewer = ap suc w.fewer;
      others = λ z ne k. elim k [ inl f ↦ inl f | inr j ↦ inr (w.others z ne j) ];
    }

-- elements with different images, each of which the list has, are no more than it has
pigeons : {A B : Type 0} (f : A → B) (xs : List A) (ys : List B) → ((i : ℕ) (x : A) → slice_get xs i ≡ Some x → IsIn ys (f x))
    → ((i j : ℕ) (x y : A) → slice_get xs i ≡ Some x → slice_get xs j ≡ Some y → f x ≡ f y → i ≡ j) → length xs ≤ length ys
pigeons f [] ys there once = omega arith
pigeons f (x ∷ xs) ys there once =
    let w = without ys (f x) (there 0 x refl) in
    let rest = pigeons f xs w.rest
    (λ i y got. w.others (f y) (λ e. absurd (let first : suc i ≡ 0 = once (suc i) 0 y x got refl e in omega (arith, first))) (there (suc i) y got))
    (λ i j y z a b e. let same : suc i ≡ suc j = once (suc i) (suc j) y z a b e in omega (arith, same)) in
    omega (arith, rest, w.fewer)

-- ---- the keys of items

abbrev all_keys : List (List PlainItem) → List PlainKey
all_keys [] = []
all_keys (items ∷ lists) = map (λ x. x.key) items ++ all_keys lists

told_key : (items : List PlainItem) (key : PlainKey) (told : Option Entry) → says items (AtKey key) ≡ Some told → IsIn (map (λ x. x.key) items) key
told_key [] key told e = absurd (cc)
told_key (x ∷ items) key told e = by (covers x.key (AtKey key)) refl e (told_key items key told)
  where
    by : (b : Bool) → covers x.key (AtKey key) ≡ b → cond b (Some (entry_in x.key x.value (AtKey key))) (says items (AtKey key)) ≡ Some told
        → (says items (AtKey key) ≡ Some told → IsIn (map (λ y. y.key) items) key) → IsIn (map (λ y. y.key) (x ∷ items)) key
    by true c f later = inl (sym (same_key_is x.key key (sym (covers_key x.key key) ∙ c)))
    by false c f later = inr (later f)

stood_key : (m : ItemMap) (items : List PlainItem) (key : PlainKey) (value : PlainValue) → after m items key ≡ Some value → IsIn (map (λ x. x.key) items) key ⊎ (m key ≡ Some value)
stood_key m items key value = by (says items (AtKey key)) refl
  where
    by : (o : Option (Option Entry)) → says items (AtKey key) ≡ o → elim o [ Some entry ↦ value_of_entry entry | None ↦ m key ] ≡ Some value → IsIn (map (λ x. x.key) items) key ⊎ (m key ≡ Some value)
    by None f e = inr e
    by (Some told) f e = inl (told_key items key told f)

stood_in : (m : ItemMap) (lists : List (List PlainItem)) (key : PlainKey) (value : PlainValue) → fold after m lists key ≡ Some value → IsIn (all_keys lists) key ⊎ (m key ≡ Some value)
stood_in m [] key value e = inr e
stood_in m (items ∷ lists) key value e = elim (stood_in (after m items) lists key value e) [
  | inl a ↦ inl (in_back (map (λ x. x.key) items) (all_keys lists) key a)
  | inr a ↦ elim (stood_key m items key value a) [ inl b ↦ inl (in_front (map (λ x. x.key) items) (all_keys lists) key b) | inr b ↦ inr b ]
]

-- what stands under a key is that of an item
stands_in : (lists : List (List PlainItem)) (key : PlainKey) (value : PlainValue) → after_all lists key ≡ Some value → IsIn (all_keys lists) key
stands_in lists key value e = elim (stood_in no_items lists key value e) [ inl a ↦ a | inr a ↦ absurd (cc a) ]

-- each node has an Object of its own
few_objects : (lists : List (List PlainItem)) (nodes : List TreeNode) → Stands (after_all lists) → AreTreeNodes (after_all lists) nodes → length nodes ≤ length (all_keys lists)
few_objects lists nodes stands are = pigeons (λ x. ObjectKey x.node.store x.node.id) nodes (all_keys lists)
    (λ i x got. let v = object_value (after_all lists) x.node x.kind (are.kind i x got) in stands_in lists (ObjectKey x.node.store x.node.id) v.0 v.1)
    (λ i j x y a b e. are.once i j x y a b (one_path (after_all lists) stands x.path y.path x.node (are.node i x a) (are.node j y b ∙ ap Some (sym (node_path x.node y.node (ap store_in e) (ap id_in e))))))
  where
    store_in : PlainKey → ℕ
    store_in (ObjectKey store id) = store
    store_in _ = 0

    id_in : PlainKey → ℕ
    id_in (ObjectKey store id) = id
    id_in _ = 0

-- ---- the bytes of items

key_some : (key : PlainKey) → 1 ≤ length (key_bytes key)
key_some (ObjectKey s i) = omega arith
key_some (AttributeKey s i x) = omega arith
key_some (ExtentKey s i start stop) = omega arith
key_some (ChildKey s i x) = omega arith
key_some (GraveKey s i) = omega arith
key_some (AllocationKey start stop) = omega arith

items_some : (items : List PlainItem) → length items ≤ sum_by (λ x. length (item_bytes x)) items
items_some [] = omega arith
items_some (x ∷ items) = omega (arith, items_some items, key_some x.key, length-append (key_bytes x.key) (value_bytes x.value), sum_by-cons (λ (y : PlainItem). length (item_bytes y)) x items)

abbrev items_in : PlainRecord → ℕ
items_in (TransactionRecord number items) = length items
items_in (DiscardRecord number) = 0

record_some : (x : PlainRecord) → items_in x ≤ length (record_bytes x)
record_some (TransactionRecord number items) = omega (arith, sum_text number items, items_some items)
record_some (DiscardRecord number) = omega arith

abbrev lengths : List (List ℕ) → ℕ
lengths texts = sum_by (λ text. length text) texts

-- the records at the front of the texts have no more items than these have bytes
front_items : {texts end : List (List ℕ)} {records : List PlainRecord} → Front texts records end → sum_by items_in records ≤ lengths texts
front_items Nothing = omega arith
front_items (First {text} {rest} {more} {end} {x} {records} is e f) =
    omega (arith, front_items f, record_some x, ap length e, length-append (record_bytes x) rest, sum_by-cons items_in x records, sum_by-cons (λ (t : List ℕ). length t) text more, sum_by-cons (λ (t : List ℕ). length t) rest more)
front_items (Dropped {text} {more} {end} {records} cut f) = omega (arith, front_items f, sum_by-cons (λ (t : List ℕ). length t) text more)

-- joining the blocks of an epoch keeps the bytes
abbrev run_lengths : List (ℕ × List ℕ) → ℕ
run_lengths blocks = sum_by (λ block. length block.1) blocks

onto_lengths : (block : ℕ × List ℕ) (others : List (ℕ × List ℕ)) → run_lengths (onto block others) ≡ length block.1 + run_lengths others
onto_lengths block [] = omega (arith, sum_by-cons (λ (b : ℕ × List ℕ). length b.1) block [])
onto_lengths block (run ∷ others) = by (block.0 == run.0)
  where
    by : (b : Bool) → run_lengths (cond b ((block.0, block.1 ++ run.1) ∷ others) (block ∷ run ∷ others)) ≡ length block.1 + run_lengths (run ∷ others)
    by true = omega (arith, length-append block.1 run.1, sum_by-cons (λ (b : ℕ × List ℕ). length b.1) run others, sum_by-cons (λ (b : ℕ × List ℕ). length b.1) (block.0, block.1 ++ run.1) others)
    by false = omega (arith, sum_by-cons (λ (b : ℕ × List ℕ). length b.1) block (run ∷ others))

runs_lengths : (blocks : List (ℕ × List ℕ)) → run_lengths (runs blocks) ≡ length (all_bytes blocks)
runs_lengths [] = refl
runs_lengths (block ∷ blocks) = omega (arith, onto_lengths block (runs blocks), runs_lengths blocks, length-append block.1 (all_bytes blocks))

text_lengths : (others : List (ℕ × List ℕ)) → lengths (map (λ run. run.1) others) ≡ run_lengths others
text_lengths [] = refl
text_lengths (run ∷ others) = omega (arith, text_lengths others, sum_by-cons (λ (t : List ℕ). length t) run.1 (map (λ (r : ℕ × List ℕ). r.1) others), sum_by-cons (λ (b : ℕ × List ℕ). length b.1) run others)

-- ---- the items of transactions

abbrev txn_items : Transactions → ℕ
txn_items txns = sum_by (λ txn. length txn.1) txns

kept_items : (p : ℕ × List PlainItem → Bool) (txns : Transactions) → txn_items (filter p txns) ≤ txn_items txns
kept_items p [] = omega arith
kept_items p (t ∷ txns) = by (p t) (kept_items p txns)
  where
    by : (b : Bool) → txn_items (filter p txns) ≤ txn_items txns → txn_items (cond b (t ∷ filter p txns) (filter p txns)) ≤ txn_items (t ∷ txns)
    by true later = omega (arith, later, sum_by-cons (λ (x : ℕ × List PlainItem). length x.1) t txns, sum_by-cons (λ (x : ℕ × List PlainItem). length x.1) t (filter p txns))
    by false later = omega (arith, later, sum_by-cons (λ (x : ℕ × List PlainItem). length x.1) t txns)

put_items : (txns : Transactions) (x : PlainRecord) → txn_items (put txns x) ≤ txn_items txns + items_in x
put_items txns (TransactionRecord number items) =
    omega (arith, sum_by-append (λ (t : ℕ × List PlainItem). length t.1) txns ((number, items) ∷ []), sum_by-cons (λ (t : ℕ × List PlainItem). length t.1) (number, items) [])
put_items txns (DiscardRecord number) = omega (arith, kept_items (λ t. nat_le t.0 number) txns)

left_items : (txns : Transactions) (records : List PlainRecord) → txn_items (fold put txns records) ≤ txn_items txns + sum_by items_in records
left_items txns [] = omega arith
left_items txns (x ∷ records) = omega (arith, left_items (put txns x) records, put_items txns x, sum_by-cons items_in x records)

keys_are : (txns : Transactions) → length (all_keys (lists_of txns)) ≡ txn_items txns
keys_are [] = refl
keys_are (t ∷ txns) = omega (arith, keys_are txns, length-append (map (λ (x : PlainItem). x.key) t.1) (all_keys (lists_of txns)), length-map t.1 (λ (x : PlainItem). x.key), sum_by-cons (λ (x : ℕ × List PlainItem). length x.1) t txns)

-- the nodes of a stream's transactions are no more than it has record bytes
pub few_nodes : (base : ℕ) (blocks : List (ℕ × List ℕ)) (txns : Transactions) (nodes : List TreeNode) → IsTxns base blocks txns → Stands (items_after txns) → AreTreeNodes (items_after txns) nodes
    → length nodes ≤ length (all_bytes blocks)
few_nodes base blocks txns nodes is stands are =
    omega (
      arith,
      few_objects (lists_of txns) nodes stands are,
      keys_are txns,
      ap txn_items is.txns_are,
      left_items [] is.records,
      front_items is.read,
      text_lengths (runs blocks),
      runs_lengths blocks,
    )
