-- The steps of the functions, over plain values.
use Rattle.std.proofs.Common.{◌≡◌, ℕ, ◌+◌, ◌<◌, ◌≤◌, true, List, [], ◌∷◌, ◌++◌, length, get_or, take, drop, Result, Ok, Err, ◌⊎◌, sym, ap, subst, ◌∙◌, append_assoc, arith, inl, inr, length-append, length-take, length-drop}
use Rattle.std.specs.Prelude.{All, IfOk, IfErr}
use Rattle.std.proofs.lemmas.List.{get_or-map, length-map, at_drop_more, take_more, take-append-drop, take-take, drop-take, take_all}
use Rattle.std.proofs.lemmas.List.Elements.{All-get_or, All-push}
use Rattle.byteorder.specs.Endian.{little_bytes, little_number}
use Rattle.fx_item.specs.Item.{PlainItem, IsNameItem, item_bytes, item_of, items_of}
use Rattle.fx_item.specs.Order.{is_ascending}
use Rattle.fx_item.specs.declared.item.Item.{Item}
use Rattle.fx_item.proofs.Fields.{IsBytes, IsBytes-drop, wide4, wide8}
use Rattle.fx_record.specs.Record.{PlainRecord, TransactionRecord, DiscardRecord, AreItems, IsRecord, items_bytes, body_bytes, record_bytes, plain_record}
use Rattle.fx_record.specs.Writing.{head_bytes}
use Rattle.fx_record.specs.Reading.{IsFault, TakesItem, ItemRead, AreAll, ItemsRead, IsBodyOf, IsRecordReadAs, IsRefusedAs}
use Rattle.fx_record.specs.declared.record.Record.{Record}
use Rattle.fx_record.specs.declared.record.Record.TheVariants as records
use Rattle.fx_record.specs.declared.record.RecordFault.{RecordFault}
use Rattle.fx_record.specs.declared.record.RecordFault.TheVariants as faults
use Rattle.fx_record.proofs.Lists.{items_of-push, items_bytes-push}
use Rattle.fx_record.proofs.Parts.{transaction_len, discard_len, record_len, head_then_items}
use Rattle.fx_record.proofs.Faults.{no_fault, one_fault, same_record}

-- ---- writing

pub is_item : (xs : List Item) (i : ℕ) (x : Item) → i < length xs → x ≡ get_or xs i x → All IsNameItem (items_of xs) → IsNameItem (item_of x)
is_item xs i x lt e all =
    subst IsNameItem (get_or-map item_of xs i x (item_of x) lt ∙ ap item_of (sym e)) (All-get_or IsNameItem (items_of xs) i (item_of x) (omega (arith, length-map xs item_of)) all)

pub len_more : (xs : List Item) (i : ℕ) (x : Item) → i < length xs → x ≡ get_or xs i x →
    length (items_bytes (items_of (drop i xs))) ≡ length (item_bytes (item_of x)) + length (items_bytes (items_of (drop (i + 1) xs)))
len_more xs i x lt e =
    let rest = drop (i + 1) xs in
    at_drop_more (λ (w : List Item). length (items_bytes (items_of w))) xs i x lt
    ∙ ap (λ (y : Item). length (items_bytes (items_of (y ∷ rest)))) (sym e)
    ∙ length-append (item_bytes (item_of x)) (items_bytes (items_of rest))

pub text_more : (old : List ℕ) (xs : List Item) (i : ℕ) (x : Item) → i < length xs → x ≡ get_or xs i x →
    old ++ items_bytes (items_of (take i xs)) ++ item_bytes (item_of x) ≡ old ++ items_bytes (items_of (take (i + 1) xs))
text_more old xs i x lt e =
    let front = take i xs in
    append_assoc old (items_bytes (items_of front)) (item_bytes (item_of x))
    ∙ ap (λ (w : List ℕ). old ++ w) (
    sym (items_bytes-push (items_of front) (item_of x))
    ∙ ap items_bytes (sym (items_of-push front x))
    ∙ ap (λ (y : Item). items_bytes (items_of (front ++ y ∷ []))) e
    ∙ ap (λ (w : List Item). items_bytes (items_of w)) (sym (take_more xs i x lt)))

pub transaction_of : (r : Record) (number : ℕ) (items : List Item) → r ≡ (let t : Record = records.Txn number items in t) → plain_record r ≡ TransactionRecord number (items_of items)
transaction_of r number items e = ap plain_record e

pub transaction_text : (number : ℕ) (items : List PlainItem) → length (record_bytes (TransactionRecord number items)) ≡ 17 + length (items_bytes items)
transaction_text number items = omega (arith, record_len (TransactionRecord number items), transaction_len number items)

pub discard_text : (number : ℕ) → length (record_bytes (DiscardRecord number)) ≡ 13
discard_text number = omega (arith, record_len (DiscardRecord number), discard_len number)

pub transaction_written : (old mid grown new head : List ℕ) (number n : ℕ) (items : List Item) → mid ≡ old → grown ≡ mid ++ head → head ≡ head_bytes (13 + n) number (length items) → n ≡ length (items_bytes (items_of items)) →
    new ≡ grown ++ items_bytes (items_of items) → new ≡ old ++ record_bytes (TransactionRecord number (items_of items))
transaction_written old mid grown new head number n items mid_is grown_is head_is n_is new_is =
    let text = items_bytes (items_of items) in
    let exact : head ≡ head_bytes (13 + length text) number (length (items_of items)) =
    head_is ∙ ap (λ (k : ℕ). head_bytes (13 + k) number (length items)) n_is ∙ ap (head_bytes (13 + length text) number) (sym (length-map items item_of)) in
    let front : grown ≡ old ++ head_bytes (13 + length text) number (length (items_of items)) =
    grown_is ∙ ap (λ (w : List ℕ). w ++ head) mid_is ∙ ap (λ (w : List ℕ). old ++ w) exact in
    new_is ∙ ap (λ (w : List ℕ). w ++ text) front
    ∙ append_assoc old (head_bytes (13 + length text) number (length (items_of items))) text
    ∙ ap (λ (w : List ℕ). old ++ w) (head_then_items number (items_of items))

-- ---- reading

pub takes : (items news : List Item) (found : Item) (len : ℕ) (bytes rest : List ℕ) → AreItems (items_of items) → news ≡ items ++ found ∷ [] → IsNameItem (item_of found) →
    is_ascending (items_of items ++ item_of found ∷ []) ≡ true → take len bytes ≡ item_bytes (item_of found) → rest ≡ drop len bytes → TakesItem (items_of items) bytes (items_of news) rest
takes items news found len bytes rest h more is ascending front after =
    let same = ap items_of more ∙ items_of-push items found in
    record {
      item = item_of found;
      more_is = same;
      are_items = subst AreItems (sym same) (record { each = All-push IsNameItem (items_of items) (item_of found) h.each is; ascending = ascending });
      parts = sym (take-append-drop len bytes) ∙ ap (λ (w : List ℕ). w ++ drop len bytes) front ∙ ap (λ (w : List ℕ). item_bytes (item_of found) ++ w) (sym after);
    }

pub bad_item : (e : RecordFault) (count place : ℕ) (bytes rest : List ℕ) (items more : List PlainItem) → AreItems items → length items ≡ place → bytes ≡ items_bytes items ++ rest → place < count →
    ItemRead place items rest more (Err e) → ItemsRead count bytes (Err e)
bad_item (faults.BadItem at) count place bytes rest items more h n parts lt read =
    record { before = items; left = rest; are_items = h; place_is = n ∙ sym read.0; parts = parts; wrong = inl (omega (arith, read.0), read.1) }
bad_item faults.Cut count place bytes rest items more h n parts lt read = read
bad_item faults.BadTag count place bytes rest items more h n parts lt read = read
bad_item faults.OutOfMemory count place bytes rest items more h n parts lt read = read

pub transaction_body : (bytes text : List ℕ) (number count : ℕ) (items : List PlainItem) → IsBytes bytes → 12 ≤ length bytes → number ≡ little_number 8 bytes → count ≡ little_number 4 (drop 8 bytes) → text ≡ drop 4 (drop 8 bytes) →
    AreAll count text items → 1 ∷ bytes ≡ body_bytes (TransactionRecord number items)
unfolding body_bytes
transaction_body bytes text number count items fits long number_is count_is text_is all =
    let first : little_bytes 8 number ≡ take 8 bytes = ap (little_bytes 8) number_is ∙ wide8.stands bytes (omega arith) fits in
    let second : little_bytes 4 (length items) ≡ take 4 (drop 8 bytes) =
    ap (little_bytes 4) (all.count_is ∙ count_is) ∙ wide4.stands (drop 8 bytes) (omega (arith, length-drop 8 bytes)) (IsBytes-drop 8 bytes fits) in
    let third : items_bytes items ≡ drop 4 (drop 8 bytes) = sym all.bytes_are ∙ text_is in
    let after : drop 8 bytes ≡ little_bytes 4 (length items) ++ items_bytes items =
    sym (take-append-drop 4 (drop 8 bytes)) ∙ ap (λ (w : List ℕ). w ++ drop 4 (drop 8 bytes)) (sym second) ∙ ap (λ (w : List ℕ). little_bytes 4 (length items) ++ w) (sym third) in
    ap (λ (w : List ℕ). 1 ∷ w) (sym (take-append-drop 8 bytes) ∙ ap (λ (w : List ℕ). w ++ drop 8 bytes) (sym first) ∙ ap (λ (w : List ℕ). little_bytes 8 number ++ w) after)

pub discard_body : (bytes : List ℕ) (number : ℕ) → IsBytes bytes → length bytes ≡ 8 → number ≡ little_number 8 bytes → 2 ∷ bytes ≡ body_bytes (DiscardRecord number)
unfolding body_bytes
discard_body bytes number fits eight number_is =
    let first : little_bytes 8 number ≡ take 8 bytes = ap (little_bytes 8) number_is ∙ wide8.stands bytes (omega arith) fits in
    let all : take 8 bytes ≡ bytes = take_all 8 bytes (omega arith) in
    ap (λ (w : List ℕ). 2 ∷ w) (sym (first ∙ all))

pub take_len : (len : ℕ) (bytes : List ℕ) → take (4 + len) bytes ≡ take 4 bytes ++ take len (drop 4 bytes)
take_len len bytes =
    sym (take-append-drop 4 (take (4 + len) bytes))
    ∙ ap (λ (w : List ℕ). w ++ drop 4 (take (4 + len) bytes)) (take-take 4 (4 + len) bytes (omega arith))
    ∙ ap (λ (w : List ℕ). take 4 bytes ++ w) (drop-take 4 len bytes)

pub found_whole : (bytes body : List ℕ) (len : ℕ) (x : PlainRecord) → IsBytes bytes → 4 + len ≤ length bytes → len ≡ little_number 4 bytes → body ≡ take len (drop 4 bytes) → IsBodyOf body x →
    IsRecord x × (4 + len ≤ length bytes) × (take (4 + len) bytes ≡ record_bytes x)
unfolding record_bytes
found_whole bytes body len x fits long len_is body_is h =
    let same : take len (drop 4 bytes) ≡ body_bytes x = sym body_is ∙ h.1 in
    let n : len ≡ length (body_bytes x) = omega (arith, ap length same, length-take len (drop 4 bytes), length-drop 4 bytes) in
    let first : take 4 bytes ≡ little_bytes 4 (length (body_bytes x)) = sym (wide4.stands bytes (omega arith) fits) ∙ ap (little_bytes 4) (sym len_is ∙ n) in
    (h.0, long, take_len len bytes ∙ ap (λ (w : List ℕ). w ++ take len (drop 4 bytes)) first ∙ ap (λ (w : List ℕ). little_bytes 4 (length (body_bytes x)) ++ w) same)

-- ---- what the public call says

abbrev Answer : Type 0
Answer = Result (Record × ℕ) RecordFault

abbrev Found : Answer → List ℕ → Type 0
Found r bytes = IfOk r (λ y. IsRecord (plain_record y.0) × (y.1 ≤ length bytes) × (take y.1 bytes ≡ record_bytes (plain_record y.0)))

abbrev Faulty : Answer → List ℕ → Type 0
Faulty r bytes = IfErr r (λ e. (e ≡ faults.OutOfMemory) ⊎ IsFault e bytes)

front_is : (bytes text : List ℕ) (n : ℕ) → take n bytes ≡ text → bytes ≡ text ++ drop n bytes
front_is bytes text n e = sym (take-append-drop n bytes) ∙ ap (λ (w : List ℕ). w ++ drop n bytes) e

pub read_as : (r : Answer) (bytes : List ℕ) → Found r bytes → Faulty r bytes → (x : PlainRecord) (rest : List ℕ) → IsRecord x → bytes ≡ record_bytes x ++ rest → IsRecordReadAs r x
read_as (Ok y) bytes found fault x rest h e =
    let parts = front_is bytes (record_bytes (plain_record y.0)) y.1 found.2 in
    let same = same_record (plain_record y.0) x (drop y.1 bytes) rest found.0 h (sym parts ∙ e) in
    let len : y.1 ≡ length (record_bytes (plain_record y.0)) = omega (arith, ap length found.2, length-take y.1 bytes, found.1) in
    (same, len ∙ ap (λ (z : PlainRecord). length (record_bytes z)) same)
read_as (Err f) bytes found fault x rest h e =
    elim fault [ inl k ↦ k | inr k ↦ absurd (no_fault x bytes rest f h e k) ]

pub refused_as : (r : Answer) (bytes : List ℕ) → Found r bytes → Faulty r bytes → (fault : RecordFault) → IsFault fault bytes → IsRefusedAs r fault
refused_as (Ok y) bytes found faulty fault f =
    no_fault (plain_record y.0) bytes (drop y.1 bytes) fault found.0 (front_is bytes (record_bytes (plain_record y.0)) y.1 found.2) f
refused_as (Err g) bytes found faulty fault f =
    elim faulty [ inl k ↦ inl k | inr k ↦ inr (one_fault g fault bytes k f) ]
