-- The transactions that a stream leaves are numbered one after another, with discards anywhere.
use Rattle.std.proofs.Common.{◌≡◌, ℕ, zero, suc, ◌+◌, ◌-◌, ◌≤◌, leb, List, [], ◌∷◌, ◌++◌, map, take, refl, ap, ◌∙◌, arith, Some, None}
use Rattle.std.specs.Prelude.{IsTrue, slice_get}
use Rattle.std.specs.List.{fold}
use Rattle.std.proofs.lemmas.Bool.{and_parts, eqb-true, leb-true}
use Rattle.fx_item.specs.Item.{PlainItem}
use Rattle.fx_record.specs.Record.{PlainRecord, TransactionRecord, DiscardRecord}
use Rattle.fx_record.specs.Txns.{number_of, may_come, in_order, last_number, put, txns_left_by, IsTxns}
use Rattle.fx_record.specs.Progress.{IsNumbered}
use Rattle.fx_record.specs.Commits.{numbered, records_of}
use Rattle.fx_record.proofs.Numbers.{numbered_push, kept}
use Rattle.fx_record.proofs.Commits.{put_commits}
use Rattle.fx_record.proofs.Counted.{txn_number}
use Rattle.fx_uses.specs.Live.{Txn, txn_of, AreNumbered}

abbrev Txns : Type 0
Txns = List (ℕ × List PlainItem)

got_mapped : (xs : Txns) (i : ℕ) (t : Txn) → slice_get (map txn_of xs) i ≡ Some t → (x : ℕ × List PlainItem) × (slice_get xs i ≡ Some x) × (txn_of x ≡ t)
got_mapped [] i t e = let z : None ≡ Some t = e in absurd (cc)
got_mapped (x ∷ xs) zero t e = (x, refl, cc)
got_mapped (x ∷ xs) (suc i) t e = got_mapped xs i t e

pub txns_follow_on : (base : ℕ) (blocks : List (ℕ × List ℕ)) (txns : Txns) → IsTxns base blocks txns → AreNumbered base (map txn_of txns)
txns_follow_on base blocks txns h = record {
  each = λ i t got.
      let m : (x : ℕ × List PlainItem) × (slice_get txns i ≡ Some x) × (txn_of x ≡ t) = got_mapped txns i t got in
      let e : m.0.0 ≡ t.number = ap (λ (u : Txn). u.number) m.2 in
      omega (arith, e, txn_number base blocks txns i m.0 h m.1);
}

-- ---- this session's records, after those that were found

within : (base last : ℕ) (x : PlainRecord) → base ≤ last → IsTrue (may_come base last x) → base ≤ number_of x
within base last (TransactionRecord number items) le h = omega (arith, eqb-true number (last + 1) h)
within base last (DiscardRecord number) le h = leb-true base number (and_parts (leb base number) (leb number last) h).0

put_numbered : (base last : ℕ) (txns : Txns) (x : PlainRecord) → IsNumbered base txns last → IsTrue (may_come base last x) → IsNumbered base (put txns x) (number_of x)
put_numbered base last txns (TransactionRecord number items) h comes = numbered_push base last number items txns (eqb-true number (last + 1) comes) h
put_numbered base last txns (DiscardRecord number) h comes =
    let p = and_parts (leb base number) (leb number last) comes in
    (kept base number last txns h (leb-true base number p.0) (leb-true number last p.1)).1

fold_follows : (base last : ℕ) (txns : Txns) (records : List PlainRecord) → base ≤ last → IsNumbered base txns last → IsTrue (in_order base last records) → IsNumbered base (fold put txns records) (last_number last records)
fold_follows base last txns [] le h ordered = h
fold_follows base last txns (x ∷ records) le h ordered =
    let p = and_parts (may_come base last x) (in_order base (number_of x) records) ordered in
    fold_follows base (number_of x) (put txns x) records (within base last x le p.0) (put_numbered base last txns x h p.0) p.1

fold_joined : (txns : Txns) (xs ys : List PlainRecord) → fold put txns (xs ++ ys) ≡ fold put (fold put txns xs) ys
fold_joined txns [] ys = refl
fold_joined txns (x ∷ xs) ys = fold_joined (put txns x) xs ys

-- with none dropped
pub left_with_commits : (records : List PlainRecord) (last : ℕ) (commits : List (List PlainItem)) → txns_left_by (records ++ records_of last commits) ≡ txns_left_by records ++ numbered last commits
left_with_commits records last commits = fold_joined [] records (records_of last commits) ∙ put_commits last (txns_left_by records) commits

-- with those beyond a number dropped
pub left_with_discard : (base : ℕ) (records : List PlainRecord) (k : ℕ) (commits : List (List PlainItem)) → IsTrue (in_order base base records) → base ≤ k → k ≤ last_number base records
    → txns_left_by (records ++ DiscardRecord k ∷ records_of k commits) ≡ take (k - base) (txns_left_by records) ++ numbered k commits
left_with_discard base records k commits ordered least most =
    fold_joined [] records (DiscardRecord k ∷ records_of k commits)
    ∙ put_commits k (put (txns_left_by records) (DiscardRecord k)) commits
    ∙ ap (λ (w : Txns). w ++ numbered k commits) (kept base k (last_number base records) (txns_left_by records) (fold_follows base base [] records (omega arith) refl ordered) least most).0
