-- The numbers of the transactions that a stream leaves.
use Rattle.std.proofs.Common.{◌≡◌, ℕ, zero, suc, ◌+◌, ◌≤◌, leb, List, [], ◌∷◌, length, map, Some, refl, sym, ap, subst, ◌∙◌, arith}
use Rattle.std.specs.Prelude.{All, IsTrue, slice_get}
use Rattle.std.specs.List.{fold}
use Rattle.std.proofs.lemmas.Bool.{and_parts, eqb-true, leb-true}
use Rattle.std.proofs.lemmas.Option.{same_Some}
use Rattle.std.proofs.lemmas.List.Elements.{All-nil, All-cons}
use Rattle.fx_record.specs.Record.{PlainRecord, TransactionRecord, DiscardRecord, IsRecord}
use Rattle.fx_record.specs.Txns.{Front, Nothing, First, Dropped, number_of, may_come, in_order, last_number, put, IsTxns}
use Rattle.fx_record.specs.Progress.{IsNumbered}
use Rattle.fx_record.specs.Commits.{numbered}
use Rattle.fx_record.proofs.Numbers.{numbered_push, kept}
use Rattle.fx_record.proofs.Commits.{Items, Txns}

-- ---- numbers that follow each other

pub counted : (base last : ℕ) (txns : Txns) → IsNumbered base txns last → last ≡ base + length txns
counted base last [] h = omega arith
counted base last (t ∷ txns) h = omega (arith, h.0, counted t.0 last txns h.1)

pub number_at : (base last : ℕ) (txns : Txns) (i : ℕ) (t : ℕ × Items) → IsNumbered base txns last → slice_get txns i ≡ Some t → t.0 ≡ base + i + 1
number_at base last [] i t h e = absurd cc
number_at base last (x ∷ txns) zero t h e =
    let same = same_Some x t e in
    omega (arith, h.0, ap (λ (w : ℕ × Items). w.0) same)
number_at base last (x ∷ txns) (suc i) t h e = omega (arith, h.0, number_at x.0 last txns i t h.1 e)

pub are_numbered : (base last : ℕ) (txns : Txns) → IsNumbered base txns last → txns ≡ numbered base (map (λ (t : ℕ × Items). t.1) txns)
are_numbered base last [] h = refl
are_numbered base last (t ∷ txns) h =
    let rest : List Items = map (λ (w : ℕ × Items). w.1) txns in
    ap (λ (w : Txns). t ∷ w) (are_numbered t.0 last txns h.1)
    ∙ ap (λ (n : ℕ). (n, t.1) ∷ numbered n rest) h.0

pub numbers_of : (last : ℕ) (commits : List Items) → IsNumbered last (numbered last commits) (last + length commits)
numbers_of last [] = omega arith
numbers_of last (x ∷ commits) =
    let same : last + 1 + length commits ≡ last + length (x ∷ commits) = omega arith in
    (refl, subst (λ (n : ℕ). IsNumbered (last + 1) (numbered (last + 1) commits) n) same (numbers_of (last + 1) commits))

-- ---- records in order

within : (base last : ℕ) (x : PlainRecord) → base ≤ last → IsTrue (may_come base last x) → base ≤ number_of x
within base last (TransactionRecord number items) le h = omega (arith, eqb-true number (last + 1) h)
within base last (DiscardRecord number) le h = leb-true base number (and_parts (leb base number) (leb number last) h).0

put_numbered : (base last : ℕ) (txns : Txns) (x : PlainRecord) → IsNumbered base txns last → IsTrue (may_come base last x) → IsNumbered base (put txns x) (number_of x)
put_numbered base last txns (TransactionRecord number items) h comes = numbered_push base last number items txns (eqb-true number (last + 1) comes) h
put_numbered base last txns (DiscardRecord number) h comes =
    let p = and_parts (leb base number) (leb number last) comes in
    (kept base number last txns h (leb-true base number p.0) (leb-true number last p.1)).1

fold_numbered : (base last : ℕ) (txns : Txns) (records : List PlainRecord) → base ≤ last → IsNumbered base txns last → IsTrue (in_order base last records) → IsNumbered base (fold put txns records) (last_number last records)
fold_numbered base last txns [] le h ordered = h
fold_numbered base last txns (x ∷ records) le h ordered =
    let p = and_parts (may_come base last x) (in_order base (number_of x) records) ordered in
    fold_numbered base (number_of x) (put txns x) records (within base last x le p.0) (put_numbered base last txns x h p.0) p.1

-- ---- the transactions of a stream

abbrev Blocks : Type 0
Blocks = List (ℕ × List ℕ)

txns_follow : (base : ℕ) (blocks : Blocks) (txns : Txns) (h : IsTxns base blocks txns) → IsNumbered base txns (last_number base h.records)
txns_follow base blocks txns h =
    subst (λ (w : Txns). IsNumbered base w (last_number base h.records)) (sym h.txns_are) (fold_numbered base base [] h.records (omega arith) refl h.ordered)

pub last_of : (base : ℕ) (blocks : Blocks) (txns : Txns) (h : IsTxns base blocks txns) → last_number base h.records ≡ base + length txns
last_of base blocks txns h = counted base (last_number base h.records) txns (txns_follow base blocks txns h)

pub txns_numbered : (base : ℕ) (blocks : Blocks) (txns : Txns) → IsTxns base blocks txns → IsNumbered base txns (base + length txns)
txns_numbered base blocks txns h = subst (IsNumbered base txns) (last_of base blocks txns h) (txns_follow base blocks txns h)

pub txn_number : (base : ℕ) (blocks : Blocks) (txns : Txns) (i : ℕ) (t : ℕ × Items) → IsTxns base blocks txns → slice_get txns i ≡ Some t → t.0 ≡ base + i + 1
txn_number base blocks txns i t h e = number_at base (base + length txns) txns i t (txns_numbered base blocks txns h) e

pub txns_are_numbered : (base : ℕ) (blocks : Blocks) (txns : Txns) → IsTxns base blocks txns → txns ≡ numbered base (map (λ (t : ℕ × Items). t.1) txns)
txns_are_numbered base blocks txns h = are_numbered base (base + length txns) txns (txns_numbered base blocks txns h)

pub all_records : {a end : List (List ℕ)} {xs : List PlainRecord} → Front a xs end → All IsRecord xs
all_records Nothing = All-nil IsRecord
all_records (First {x = x} {records = xs} h e p) = All-cons IsRecord x xs h (all_records p)
all_records (Dropped cut p) = all_records p
