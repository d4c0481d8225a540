-- How many bytes records have.
use Rattle.std.proofs.Common.{◌≡◌, ℕ, ◌+◌, ◌*◌, ◌^◌, ◌≤◌, List, [], ◌∷◌, ◌++◌, length, ap, ◌∙◌, arith, length-append}
use Rattle.std.specs.Prelude.{All, IsTrue}
use Rattle.std.specs.List.{sum_by}
use Rattle.std.proofs.lemmas.Bool.{and_parts, leb-true}
use Rattle.std.proofs.lemmas.List.Concat.{length-flat_map}
use Rattle.std.proofs.lemmas.List.Elements.{All-head, All-tail}
use Rattle.fx_item.specs.Name.{is_name}
use Rattle.fx_item.specs.Item.{PlainKey, ObjectKey, AttributeKey, ExtentKey, ChildKey, GraveKey, AllocationKey, PlainValue, GoneValue, DirectoryValue, FileValue, AttributeValue, ChildValue, WaitingValue, ExtentValue, TakenValue, PlainItem, IsKey, Suits, IsNameItem, is_name_key, IsObjectValue, IsChildValue, item_bytes, node_bytes, name_bytes}
use Rattle.fx_record.specs.Record.{TransactionRecord, AreItems, items_bytes, record_bytes}
use Rattle.fx_record.specs.Commits.{IsCommit}
use Rattle.fx_record.proofs.Steps.{transaction_text}

pub sum_text : (number : ℕ) (items : List PlainItem) → length (record_bytes (TransactionRecord number items)) ≡ 17 + sum_by (λ x. length (item_bytes x)) items
sum_text number items = transaction_text number items ∙ ap (λ (n : ℕ). 17 + n) (length-flat_map item_bytes items)

abbrev item : PlainKey → PlainValue → PlainItem
item key value = record { key = key; value = value }

pub object_len : (store id : ℕ) (value : PlainValue) → IsObjectValue value → length (item_bytes (item (ObjectKey store id) value)) ≤ 18
object_len store id GoneValue h = omega arith
object_len store id DirectoryValue h = omega arith
object_len store id (FileValue len) h = omega arith
object_len store id (AttributeValue text) h = absurd h
object_len store id (ChildValue other node) h = absurd h
object_len store id WaitingValue h = absurd h
object_len store id (ExtentValue block sums) h = absurd h
object_len store id TakenValue h = absurd h

pub child_len : (store id : ℕ) (name : List ℕ) (value : PlainValue) → IsChildValue value → length (item_bytes (item (ChildKey store id name) value)) ≤ 27 + length name
child_len store id name GoneValue h = omega (arith, length-append (node_bytes 4 store id ++ name_bytes name) (0 ∷ []), length-append (node_bytes 4 store id) (name_bytes name))
child_len store id name (ChildValue other node) h = omega (arith, length-append (node_bytes 4 store id ++ name_bytes name) (node_bytes 4 other node), length-append (node_bytes 4 store id) (name_bytes name))
child_len store id name DirectoryValue h = absurd h
child_len store id name (FileValue len) h = absurd h
child_len store id name (AttributeValue text) h = absurd h
child_len store id name WaitingValue h = absurd h
child_len store id name (ExtentValue block sums) h = absurd h
child_len store id name TakenValue h = absurd h

pub name_len : (name : List ℕ) → IsTrue (is_name name) → length name ≤ 255
name_len name h =
    let a = (and_parts _ _ h).0 in
    let b = (and_parts _ _ a).0 in
    let c = (and_parts _ _ b).0 in
    let d = (and_parts _ _ c).0 in
    let e = (and_parts _ _ d).0 in
    leb-true (length name) 255 (and_parts _ _ e).1

pub item_len : (x : PlainItem) → IsNameItem x → length (item_bytes x) ≤ 282
item_len x h = by_key x.key x.value h.kind h.item.key h.item.value
  where
    by_key : (key : PlainKey) (value : PlainValue) → IsTrue (is_name_key key) → IsKey key → Suits key value → length (item_bytes (item key value)) ≤ 282
    by_key (ObjectKey store id) value n k v = omega (arith, object_len store id value v)
    by_key (ChildKey store id name) value n k v = omega (arith, name_len name k.2, child_len store id name value v)
    by_key (AttributeKey store id name) value n k v = absurd (cc n)
    by_key (ExtentKey store id start stop) value n k v = absurd (cc n)
    by_key (GraveKey store id) value n k v = absurd (cc n)
    by_key (AllocationKey start stop) value n k v = absurd (cc n)

pub items_len : (items : List PlainItem) → All IsNameItem items → length (items_bytes items) ≤ 282 * length items
items_len [] h = omega arith
items_len (x ∷ items) h =
    omega (arith, item_len x (All-head IsNameItem x items h), items_len items (All-tail IsNameItem x items h), length-append (item_bytes x) (items_bytes items))

pub few_len : (number : ℕ) (items : List PlainItem) → All IsNameItem items → length (record_bytes (TransactionRecord number items)) ≤ 17 + 282 * length items
few_len number items h = omega (arith, items_len items h, transaction_text number items)

pub few_commit : (items : List PlainItem) → AreItems items → length items ≤ 2 ^ 23 → IsCommit items
few_commit items h few = record { are_items = h; short = omega (arith, items_len items h.each) }

-- ---- records of one item or two

pub one_len : (number : ℕ) (x : PlainItem) → length (record_bytes (TransactionRecord number (x ∷ []))) ≡ 17 + length (item_bytes x)
one_len number x = omega (arith, transaction_text number (x ∷ []), length-append (item_bytes x) [])

pub two_len : (number : ℕ) (x y : PlainItem) → length (record_bytes (TransactionRecord number (x ∷ y ∷ []))) ≡ 17 + length (item_bytes x) + length (item_bytes y)
two_len number x y = omega (arith, transaction_text number (x ∷ y ∷ []), length-append (item_bytes x) (item_bytes y ++ []), length-append (item_bytes y) [])

pub file_len : (number store id len : ℕ) → length (record_bytes (TransactionRecord number (item (ObjectKey store id) (FileValue len) ∷ []))) ≡ 35
file_len number store id len = omega (arith, one_len number (item (ObjectKey store id) (FileValue len)))

pub object_one_len : (number store id : ℕ) (value : PlainValue) → IsObjectValue value → length (record_bytes (TransactionRecord number (item (ObjectKey store id) value ∷ []))) ≤ 35
object_one_len number store id value h = omega (arith, one_len number (item (ObjectKey store id) value), object_len store id value h)

pub object_then_child_len : (number store id other node : ℕ) (name : List ℕ) (value child : PlainValue) → length name ≤ 255 → IsObjectValue value → IsChildValue child →
    length (record_bytes (TransactionRecord number (item (ObjectKey store id) value ∷ item (ChildKey other node name) child ∷ []))) ≤ 317
object_then_child_len number store id other node name value child le h k =
    let x = item (ObjectKey store id) value in
    let y = item (ChildKey other node name) child in
    omega (arith, le, two_len number x y, object_len store id value h, child_len other node name child k)

pub child_then_object_len : (number store id other node : ℕ) (name : List ℕ) (value child : PlainValue) → length name ≤ 255 → IsObjectValue value → IsChildValue child →
    length (record_bytes (TransactionRecord number (item (ChildKey other node name) child ∷ item (ObjectKey store id) value ∷ []))) ≤ 317
child_then_object_len number store id other node name value child le h k =
    let x = item (ObjectKey store id) value in
    let y = item (ChildKey other node name) child in
    omega (arith, le, two_len number y x, object_len store id value h, child_len other node name child k)
