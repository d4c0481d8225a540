-- Commits with numbers that follow each other: their lists, their records and the bytes of these.
use Rattle.std.proofs.Common.{◌≡◌, ℕ, zero, suc, ◌+◌, ◌*◌, ◌^◌, ◌<◌, ◌≤◌, List, [], ◌∷◌, ◌++◌, length, map, take, refl, sym, ap, ◌∙◌, append_assoc, append-nil, arith, length-append}
use Rattle.std.specs.Prelude.{All, IsTrue}
use Rattle.std.specs.List.{fold}
use Rattle.std.proofs.lemmas.Bool.{and_from, eq-eqb}
use Rattle.std.proofs.lemmas.List.Concat.{flat_map-append}
use Rattle.std.proofs.lemmas.List.Elements.{All-nil, All-head, All-tail, All-cons}
use Rattle.fx_item.specs.Item.{PlainItem}
use Rattle.fx_record.specs.Record.{PlainRecord, TransactionRecord, IsRecord, record_bytes}
use Rattle.fx_record.specs.Txns.{in_order, put, may_come}
use Rattle.fx_record.specs.Commits.{IsCommit, numbered, records_of, records_bytes, commits_bytes}
use Rattle.fx_record.proofs.Parts.{transaction_len}
use Rattle.fx_record.proofs.Steps.{transaction_text}

abbrev pub Items : Type 0
Items = List PlainItem

abbrev pub Txns : Type 0
Txns = List (ℕ × Items)

-- ---- lists

pub numbered-append : (last : ℕ) (xs ys : List Items) → numbered last (xs ++ ys) ≡ numbered last xs ++ numbered (last + length xs) ys
numbered-append last [] ys =
    let same : last ≡ last + length (let none : List Items = [] in none) = omega arith in
    ap (λ (n : ℕ). numbered n ys) same
numbered-append last (x ∷ xs) ys =
    let same : last + 1 + length xs ≡ last + length (x ∷ xs) = omega arith in
    ap (λ (w : Txns). (last + 1, x) ∷ w) (numbered-append (last + 1) xs ys ∙ ap (λ (n : ℕ). numbered (last + 1) xs ++ numbered n ys) same)

pub length-numbered : (last : ℕ) (xs : List Items) → length (numbered last xs) ≡ length xs
length-numbered last [] = refl
length-numbered last (x ∷ xs) = ap suc (length-numbered (last + 1) xs)

pub map-numbered : (last : ℕ) (xs : List Items) → map (λ (t : ℕ × Items). t.1) (numbered last xs) ≡ xs
map-numbered last [] = refl
map-numbered last (x ∷ xs) = ap (λ (w : List Items). x ∷ w) (map-numbered (last + 1) xs)

pub take-numbered : (last k : ℕ) (xs : List Items) → take k (numbered last xs) ≡ numbered last (take k xs)
take-numbered last zero xs = refl
take-numbered last (suc k) [] = refl
take-numbered last (suc k) (x ∷ xs) = ap (λ (w : Txns). (last + 1, x) ∷ w) (take-numbered (last + 1) k xs)

pub records_of-append : (last : ℕ) (xs ys : List Items) → records_of last (xs ++ ys) ≡ records_of last xs ++ records_of (last + length xs) ys
records_of-append last [] ys =
    let same : last ≡ last + length (let none : List Items = [] in none) = omega arith in
    ap (λ (n : ℕ). records_of n ys) same
records_of-append last (x ∷ xs) ys =
    let same : last + 1 + length xs ≡ last + length (x ∷ xs) = omega arith in
    ap (λ (w : List PlainRecord). TransactionRecord (last + 1) x ∷ w) (records_of-append (last + 1) xs ys ∙ ap (λ (n : ℕ). records_of (last + 1) xs ++ records_of n ys) same)

pub length-records_of : (last : ℕ) (xs : List Items) → length (records_of last xs) ≡ length xs
length-records_of last [] = refl
length-records_of last (x ∷ xs) = ap suc (length-records_of (last + 1) xs)

pub take-records_of : (last k : ℕ) (xs : List Items) → take k (records_of last xs) ≡ records_of last (take k xs)
take-records_of last zero xs = refl
take-records_of last (suc k) [] = refl
take-records_of last (suc k) (x ∷ xs) = ap (λ (w : List PlainRecord). TransactionRecord (last + 1) x ∷ w) (take-records_of (last + 1) k xs)

-- ---- records

pub is_record : (number : ℕ) (items : Items) → number < 2 ^ 64 → IsCommit items → IsRecord (TransactionRecord number items)
is_record number items fits h = (fits, h.are_items, omega (arith, transaction_len number items, h.short))

pub is_commit : (number : ℕ) (items : Items) → IsRecord (TransactionRecord number items) → IsCommit items
is_commit number items h = record { are_items = h.1; short = omega (arith, transaction_len number items, h.2) }

pub are_records : (last : ℕ) (xs : List Items) → last + length xs < 2 ^ 64 → All IsCommit xs → All IsRecord (records_of last xs)
are_records last [] fits h = All-nil IsRecord
are_records last (x ∷ xs) fits h =
    All-cons IsRecord (TransactionRecord (last + 1) x) (records_of (last + 1) xs) (is_record (last + 1) x (omega arith) (All-head IsCommit x xs h)) (are_records (last + 1) xs (omega arith) (All-tail IsCommit x xs h))

pub ordered_commits : (base last : ℕ) (xs : List Items) → IsTrue (in_order base last (records_of last xs))
ordered_commits base last [] = refl
ordered_commits base last (x ∷ xs) =
    and_from (may_come base last (TransactionRecord (last + 1) x)) (in_order base (last + 1) (records_of (last + 1) xs)) (eq-eqb (last + 1) (last + 1) refl) (ordered_commits base (last + 1) xs)

pub put_commits : (last : ℕ) (txns : Txns) (xs : List Items) → fold put txns (records_of last xs) ≡ txns ++ numbered last xs
put_commits last txns [] = sym (append-nil txns)
put_commits last txns (x ∷ xs) =
    put_commits (last + 1) (txns ++ (last + 1, x) ∷ []) xs ∙ append_assoc txns ((last + 1, x) ∷ []) (numbered (last + 1) xs)

-- ---- bytes

pub commits_bytes-append : (last : ℕ) (xs ys : List Items) → commits_bytes last (xs ++ ys) ≡ commits_bytes last xs ++ commits_bytes (last + length xs) ys
commits_bytes-append last xs ys =
    ap records_bytes (records_of-append last xs ys) ∙ flat_map-append record_bytes (records_of last xs) (records_of (last + length xs) ys)

pub commits_bytes-push : (last : ℕ) (xs : List Items) (x : Items) → commits_bytes last (xs ++ x ∷ []) ≡ commits_bytes last xs ++ record_bytes (TransactionRecord (last + length xs + 1) x)
commits_bytes-push last xs x =
    commits_bytes-append last xs (x ∷ []) ∙ ap (λ (w : List ℕ). commits_bytes last xs ++ w) (append-nil (record_bytes (TransactionRecord (last + length xs + 1) x)))

pub same_length : (last other : ℕ) (xs : List Items) → length (commits_bytes last xs) ≡ length (commits_bytes other xs)
same_length last other [] = refl
same_length last other (x ∷ xs) =
    omega (
      arith,
      same_length (last + 1) (other + 1) xs,
      length-append (record_bytes (TransactionRecord (last + 1) x)) (commits_bytes (last + 1) xs),
      length-append (record_bytes (TransactionRecord (other + 1) x)) (commits_bytes (other + 1) xs),
      transaction_text (last + 1) x,
      transaction_text (other + 1) x,
    )

pub least_length : (last : ℕ) (xs : List Items) → 17 * length xs ≤ length (commits_bytes last xs)
least_length last [] = omega arith
least_length last (x ∷ xs) =
    omega (arith, least_length (last + 1) xs, length-append (record_bytes (TransactionRecord (last + 1) x)) (commits_bytes (last + 1) xs), transaction_text (last + 1) x)
