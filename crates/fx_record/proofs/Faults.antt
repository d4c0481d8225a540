-- Bytes that begin with a record are that record's, and have no fault; no bytes have two faults.
use Rattle.std.proofs.Common.{◌≡◌, ℕ, ◌<◌, ◌≤◌, List, [], ◌∷◌, ◌++◌, length, get_or, drop, refl, sym, ap, subst, ◌∙◌, append_assoc, append-nil, arith, inl, inr, length-append}
use Rattle.std.proofs.lemmas.Bool.{cases_lt}
use Rattle.byteorder.specs.Endian.{little_number}
use Rattle.fx_item.specs.Item.{PlainItem, item_bytes}
use Rattle.fx_record.specs.Record.{PlainRecord, TransactionRecord, DiscardRecord, AreItems, IsRecord, items_bytes, body_bytes, record_bytes}
use Rattle.fx_record.specs.Reading.{body_at, count_at, items_at, IsBadItem, IsBodyFault, IsFault}
use Rattle.fx_record.specs.declared.record.RecordFault.{RecordFault}
use Rattle.fx_record.specs.declared.record.RecordFault.TheVariants as faults
use Rattle.fx_record.proofs.Lists.{front_items, items_begin}
use Rattle.fx_record.proofs.Parts.{read_whole, IsReadTransaction, read_transaction, read_discard, few_items, short_body}

nothing_left : (zs : List PlainItem) → length zs ≡ 0 → zs ≡ []
nothing_left [] e = refl
nothing_left (z ∷ zs) e = absurd (omega arith)

-- ---- bad items

-- No place is bad at which good items stand.
none_within : (count : ℕ) (bytes left : List ℕ) (items : List PlainItem) (place : ℕ) → AreItems items → bytes ≡ items_bytes items ++ left → place < length items → length items ≤ count → IsBadItem count bytes place → ⊥
none_within count bytes left items place h e lt le bad =
    let n = bad.place_is in
    let begin = items_begin bad.before items bad.left left bad.are_items.each h.each (omega arith) (sym bad.parts ∙ e) in
    let further : (zs : List PlainItem) → items ≡ bad.before ++ zs → bad.left ≡ items_bytes zs ++ left → ⊥ = λ zs same after.
    elim zs as (λ (w : List PlainItem). items ≡ bad.before ++ w → bad.left ≡ items_bytes w ++ left → ⊥) [
      | [] ↦ (λ s a. omega (arith, ap length (s ∙ append-nil bad.before)))
      | z ∷ rest ↦ (λ s a. elim bad.wrong [
        | inl w ↦ (
            let all : items ≡ (bad.before ++ z ∷ []) ++ rest = s ∙ sym (append_assoc bad.before (z ∷ []) rest) in
            w.1 z (items_bytes rest ++ left) (a ∙ append_assoc (item_bytes z) (items_bytes rest) left) (front_items (bad.before ++ z ∷ []) rest (subst AreItems all h)))
        | inr w ↦ omega (arith, w.0)
      ])
    ] same after in
    further begin.0 begin.1 begin.2

-- Nor is the end bad where all items stand and nothing is left.
none_at_end : (bytes : List ℕ) (items : List PlainItem) → AreItems items → bytes ≡ items_bytes items → IsBadItem (length items) bytes (length items) → ⊥
none_at_end bytes items h e bad =
    let n = bad.place_is in
    let begin = items_begin bad.before items bad.left [] bad.are_items.each h.each (omega arith) (sym bad.parts ∙ e ∙ sym (append-nil (items_bytes items))) in
    let zs_none = nothing_left begin.0 (omega (arith, ap length begin.1, length-append bad.before begin.0)) in
    elim bad.wrong [
      | inl w ↦ omega (arith, w.0)
      | inr w ↦ w.1 (begin.2 ∙ ap (λ (w : List PlainItem). items_bytes w ++ []) zs_none)
    ]

none_bad : (items : List PlainItem) (place : ℕ) → AreItems items → IsBadItem (length items) (items_bytes items) place → ⊥
none_bad items place h bad =
    elim (cases_lt place (length items)) [
      | inl lt ↦ none_within (length items) (items_bytes items) [] items place h (sym (append-nil (items_bytes items))) lt (omega arith) bad
      | inr le ↦ (
          let end : place ≡ length items = elim bad.wrong [ inl w ↦ absurd (omega (arith, w.0)) | inr w ↦ w.0 ] in
          none_at_end (items_bytes items) items h refl (subst (IsBadItem (length items) (items_bytes items)) end bad))
    ]

bad_le : (count : ℕ) (bytes : List ℕ) (place : ℕ) → IsBadItem count bytes place → place ≤ count
bad_le count bytes place bad = elim bad.wrong [ inl w ↦ omega (arith, w.0) | inr w ↦ omega (arith, w.0) ]

-- no earlier place is bad
none_before : (count : ℕ) (bytes : List ℕ) (i j : ℕ) → IsBadItem count bytes i → IsBadItem count bytes j → i < j → ⊥
none_before count bytes i j p q lt =
    let m = q.place_is in
    let le = bad_le count bytes j q in
    none_within count bytes q.left q.before i q.are_items q.parts (omega arith) (omega arith) p

one_bad : (count : ℕ) (bytes : List ℕ) (i j : ℕ) → IsBadItem count bytes i → IsBadItem count bytes j → i ≡ j
one_bad count bytes i j p q =
    elim (cases_lt i j) [
      | inl lt ↦ absurd (none_before count bytes i j p q lt)
      | inr le ↦ elim (cases_lt j i) [ inl lt ↦ absurd (none_before count bytes j i q p lt) | inr ge ↦ omega arith ]
    ]

-- ---- faults

body_of_transaction : (number : ℕ) (items : List PlainItem) → IsRecord (TransactionRecord number items) → IsReadTransaction (body_bytes (TransactionRecord number items)) number items
body_of_transaction number items h = read_transaction number items h.0 (few_items number items h.2)

no_body_fault : (x : PlainRecord) (fault : RecordFault) → IsRecord x → IsBodyFault fault (body_bytes x) → ⊥
no_body_fault (TransactionRecord number items) faults.BadTag h f = f.0 (body_of_transaction number items h).form
no_body_fault (TransactionRecord number items) (faults.BadItem place) h f =
    let r = body_of_transaction number items h in
    let bad : IsBadItem (length items) (items_bytes items) place =
    subst (λ (n : ℕ). IsBadItem n (items_bytes items) place) r.count_is (subst (λ (w : List ℕ). IsBadItem (count_at (body_bytes (TransactionRecord number items))) w place) r.items_are f.1) in
    none_bad items place h.1 bad
no_body_fault (DiscardRecord number) faults.BadTag h f = f.1 (read_discard number h).0
no_body_fault (DiscardRecord number) (faults.BadItem place) h f =
    let d = (read_discard number h).0 in
    omega (arith, f.0.0, d.0)
no_body_fault x faults.Cut h f = f
no_body_fault x faults.OutOfMemory h f = f

-- Bytes that begin with a record have no fault.
pub no_fault : (x : PlainRecord) (bytes rest : List ℕ) (fault : RecordFault) → IsRecord x → bytes ≡ record_bytes x ++ rest → IsFault fault bytes → ⊥
no_fault x bytes rest fault h e f =
    let g = subst (IsFault fault) e f in
    let r = read_whole x rest (short_body x h) in
    let parts : (fault : RecordFault) → IsFault fault (record_bytes x ++ rest) → ⊥ = λ fault.
    elim fault as (λ (v : RecordFault). IsFault v (record_bytes x ++ rest) → ⊥) [
      | faults.Cut ↦ (λ k. omega (arith, k, r.whole))
      | faults.BadTag ↦ (λ k. no_body_fault x faults.BadTag h (subst (IsBodyFault faults.BadTag) r.body_is k.1))
      | faults.BadItem place ↦ (λ k. no_body_fault x (faults.BadItem place) h (subst (IsBodyFault (faults.BadItem place)) r.body_is k.1))
      | faults.OutOfMemory ↦ (λ k. k)
    ] in
    parts fault g

-- No bytes have two faults.
pub one_fault : (a b : RecordFault) (bytes : List ℕ) → IsFault a bytes → IsFault b bytes → a ≡ b
one_fault faults.Cut faults.Cut bytes p q = refl
one_fault faults.Cut faults.BadTag bytes p q = absurd (omega (arith, p, q.0))
one_fault faults.Cut (faults.BadItem j) bytes p q = absurd (omega (arith, p, q.0))
one_fault faults.BadTag faults.Cut bytes p q = absurd (omega (arith, p.0, q))
one_fault faults.BadTag faults.BadTag bytes p q = refl
one_fault faults.BadTag (faults.BadItem j) bytes p q = absurd (p.1.0 q.1.0)
one_fault (faults.BadItem i) faults.Cut bytes p q = absurd (omega (arith, p.0, q))
one_fault (faults.BadItem i) faults.BadTag bytes p q = absurd (q.1.0 p.1.0)
one_fault (faults.BadItem i) (faults.BadItem j) bytes p q =
    ap (λ (n : ℕ). let f : RecordFault = faults.BadItem n in f) (one_bad (count_at (body_at bytes)) (items_at (body_at bytes)) i j p.1.1 q.1.1)
one_fault faults.OutOfMemory b bytes p q = absurd p
one_fault faults.Cut faults.OutOfMemory bytes p q = absurd q
one_fault faults.BadTag faults.OutOfMemory bytes p q = absurd q
one_fault (faults.BadItem i) faults.OutOfMemory bytes p q = absurd q

-- ---- one record

same_items : (xs ys : List PlainItem) → AreItems xs → AreItems ys → length xs ≡ length ys → items_bytes xs ≡ items_bytes ys → xs ≡ ys
same_items xs ys hx hy n e =
    let begin = items_begin xs ys [] [] hx.each hy.each (omega arith) (ap (λ (w : List ℕ). w ++ []) e) in
    let none = nothing_left begin.0 (omega (arith, ap length begin.1, length-append xs begin.0)) in
    sym (begin.1 ∙ ap (λ (w : List PlainItem). xs ++ w) none ∙ append-nil xs)

same_body : (x y : PlainRecord) → IsRecord x → IsRecord y → body_bytes x ≡ body_bytes y → x ≡ y
same_body (TransactionRecord n xs) (TransactionRecord m ys) hx hy e =
    let p = body_of_transaction n xs hx in
    let q = body_of_transaction m ys hy in
    let number : n ≡ m = sym p.number_is ∙ ap (λ (w : List ℕ). little_number 8 (drop 1 w)) e ∙ q.number_is in
    let count : length xs ≡ length ys = sym p.count_is ∙ ap count_at e ∙ q.count_is in
    let text : items_bytes xs ≡ items_bytes ys = sym p.items_are ∙ ap items_at e ∙ q.items_are in
    ap (λ (k : ℕ). TransactionRecord k xs) number ∙ ap (λ (w : List PlainItem). TransactionRecord m w) (same_items xs ys hx.1 hy.1 count text)
same_body (TransactionRecord n xs) (DiscardRecord m) hx hy e =
    let p = (body_of_transaction n xs hx).form.0 in
    let q = (read_discard m hy).0.0 in
    absurd (omega (arith, sym p ∙ ap (λ (w : List ℕ). get_or w 0 0) e ∙ q))
same_body (DiscardRecord n) (TransactionRecord m ys) hx hy e =
    let p = (read_discard n hx).0.0 in
    let q = (body_of_transaction m ys hy).form.0 in
    absurd (omega (arith, sym p ∙ ap (λ (w : List ℕ). get_or w 0 0) e ∙ q))
same_body (DiscardRecord n) (DiscardRecord m) hx hy e =
    ap DiscardRecord (sym (read_discard n hx).1 ∙ ap (λ (w : List ℕ). little_number 8 (drop 1 w)) e ∙ (read_discard m hy).1)

-- Bytes begin with one record at most.
pub same_record : (x y : PlainRecord) (a b : List ℕ) → IsRecord x → IsRecord y → record_bytes x ++ a ≡ record_bytes y ++ b → x ≡ y
same_record x y a b hx hy e =
    let p = read_whole x a (short_body x hx) in
    let q = read_whole y b (short_body y hy) in
    same_body x y hx hy (sym p.body_is ∙ ap body_at e ∙ q.body_is)
