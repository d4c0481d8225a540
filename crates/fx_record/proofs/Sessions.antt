-- A stream with the commits that a cut of one more epoch's blocks keeps.
use Rattle.std.proofs.Common.{◌≡◌, ℕ, ◌+◌, ◌^◌, ◌<◌, List, [], ◌∷◌, ◌++◌, length, take, refl, sym, ap, subst, ◌∙◌, append-nil, leb}
use Rattle.std.specs.Prelude.{All, IsTrue}
use Rattle.std.specs.List.{concat, fold}
use Rattle.std.proofs.lemmas.List.Elements.{All-nil, All-head, All-tail, All-push, All-take, All-filter}
use Rattle.std.proofs.lemmas.List.Sums.{fold-append}
use Rattle.fx_record.specs.Record.{PlainRecord, TransactionRecord, DiscardRecord, IsRecord}
use Rattle.fx_record.specs.Reading.{IsCut}
use Rattle.fx_record.specs.Txns.{epoch_texts, all_bytes, Front, put, number_of, last_number, in_order, IsTxns}
use Rattle.fx_record.specs.Commits.{IsCommit, numbered, records_of, commits_bytes, blocks_of, AreBefore, AreOf, CutsCommits}
use Rattle.fx_record.proofs.Numbers.{in_order_join}
use Rattle.fx_record.proofs.Fronts.{front_then}
use Rattle.fx_record.proofs.Commits.{Items, Txns, is_commit, are_records, ordered_commits, put_commits, take-records_of}
use Rattle.fx_record.proofs.Cuts.{cut_commits, keeps_none}
use Rattle.fx_record.proofs.Epochs.{texts_more, are_of, bytes_are, front_before, records_front}
use Rattle.fx_record.proofs.Counted.{last_of, all_records}

abbrev Blocks : Type 0
Blocks = List (ℕ × List ℕ)

-- One more text with the records of these commits, and a cut record or nothing.
text_more : (base : ℕ) (read after : Blocks) (txns : Txns) (commits : List Items) (text tail : List ℕ) → IsTxns base read txns → epoch_texts after ≡ epoch_texts read ++ text ∷ [] → All IsRecord (records_of (base + length txns) commits) →
    text ≡ commits_bytes (base + length txns) commits ++ tail → IsCut tail → IsTxns base after (txns ++ numbered (base + length txns) commits)
text_more base read after txns commits text tail h same all parts cut =
    let last = base + length txns in
    let more = records_of last commits in
    let next = last_of base read txns h in
    record {
      records = h.records ++ more;
      read = subst (λ (w : List (List ℕ)). Front w (h.records ++ more) []) (sym same) (front_then (front_before (text ∷ []) h.read) (records_front more text tail all parts cut));
      ordered = in_order_join base base h.records more h.ordered (subst (λ (n : ℕ). IsTrue (in_order base n more)) (sym next) (ordered_commits base last commits));
      txns_are = sym (put_commits last txns commits) ∙ ap (λ (w : Txns). fold put w more) h.txns_are ∙ sym (fold-append put [] h.records more);
    }

same_stream : (base : ℕ) (read : Blocks) (txns : Txns) → IsTxns base read txns → IsTxns base (read ++ []) (txns ++ [])
same_stream base read txns h =
    subst (λ (w : Blocks). IsTxns base w (txns ++ [])) (sym (append-nil read)) (subst (IsTxns base read) (sym (append-nil txns)) h)

-- The blocks of one more epoch add the commits that their bytes keep.
pub one_more_epoch : (base epoch : ℕ) (read more : Blocks) (txns : Txns) (commits : List Items) (count : ℕ) → IsTxns base read txns → AreBefore epoch read → AreOf epoch more → All IsRecord (records_of (base + length txns) commits) →
    CutsCommits (base + length txns) commits (all_bytes more) count → IsTxns base (read ++ more) (txns ++ numbered (base + length txns) (take count commits))
one_more_epoch base epoch read [] txns commits count h before of all cut =
    let none = keeps_none (base + length txns) commits [] count cut refl in
    subst (λ (n : ℕ). IsTxns base (read ++ []) (txns ++ numbered (base + length txns) (take n commits))) (sym none) (same_stream base read txns h)
one_more_epoch base epoch read (block ∷ more) txns commits count h before of all cut =
    text_more base read (read ++ block ∷ more) txns (take count commits) (all_bytes (block ∷ more)) cut.tail h (texts_more epoch read block more before of) (first_records (base + length txns) count commits all) cut.parts cut.is_cut
  where
    first_records : (last k : ℕ) (xs : List Items) → All IsRecord (records_of last xs) → All IsRecord (records_of last (take k xs))
    first_records last k xs all = subst (All IsRecord) (take-records_of last k xs) (All-take IsRecord k (records_of last xs) all)

-- The same where the blocks are given by their texts.
pub one_more_session : (base epoch : ℕ) (read : Blocks) (txns : Txns) (commits : List Items) (ts : List (List ℕ)) (count : ℕ) → IsTxns base read txns → AreBefore epoch read → base + length txns + length commits < 2 ^ 64 → All IsCommit commits →
    CutsCommits (base + length txns) commits (concat ts) count → IsTxns base (read ++ blocks_of epoch ts) (txns ++ numbered (base + length txns) (take count commits))
one_more_session base epoch read txns commits ts count h before fits each cut =
    one_more_epoch base epoch read (blocks_of epoch ts) txns commits count h before (are_of epoch ts) (are_records (base + length txns) commits fits each)
    (subst (λ (w : List ℕ). CutsCommits (base + length txns) commits w count) (sym (bytes_are epoch ts)) cut)

-- A stop keeps the first blocks.
pub stopped_session : (base epoch : ℕ) (read : Blocks) (txns : Txns) (commits : List Items) (ts : List (List ℕ)) (rest : List ℕ) → IsTxns base read txns → AreBefore epoch read → base + length txns + length commits < 2 ^ 64 → All IsCommit commits →
    concat ts ++ rest ≡ commits_bytes (base + length txns) commits →
    (count : ℕ) × CutsCommits (base + length txns) commits (concat ts) count × IsTxns base (read ++ blocks_of epoch ts) (txns ++ numbered (base + length txns) (take count commits)) × (rest ≡ [] → count ≡ length commits)
stopped_session base epoch read txns commits ts rest h before fits each e =
    let found = cut_commits (base + length txns) commits (concat ts) rest fits each e in
    (found.0, found.1, one_more_session base epoch read txns commits ts found.0 h before fits each found.1, found.2)

-- ---- what a stream's transactions are

abbrev Holds : ℕ × Items → Type 0
Holds t = IsCommit t.1

put_commits_hold : (txns : Txns) (x : PlainRecord) → IsRecord x → All Holds txns → All Holds (put txns x)
put_commits_hold txns (TransactionRecord number items) h all = All-push Holds txns (number, items) all (is_commit number items h)
put_commits_hold txns (DiscardRecord number) h all = All-filter (λ (t : ℕ × Items). leb t.0 number) Holds txns all

fold_hold : (txns : Txns) (records : List PlainRecord) → All IsRecord records → All Holds txns → All Holds (fold put txns records)
fold_hold txns [] h all = all
fold_hold txns (x ∷ records) h all =
    fold_hold (put txns x) records (All-tail IsRecord x records h) (put_commits_hold txns x (All-head IsRecord x records h) all)

pub txns_hold : (base : ℕ) (blocks : Blocks) (txns : Txns) → IsTxns base blocks txns → All Holds txns
txns_hold base blocks txns h =
    subst (All Holds) (sym h.txns_are) (fold_hold [] h.records (all_records h.read) (All-nil Holds))

number_fits : (x : PlainRecord) → IsRecord x → number_of x < 2 ^ 64
number_fits (TransactionRecord number items) h = h.0
number_fits (DiscardRecord number) h = h

last_fits : (last : ℕ) (records : List PlainRecord) → last < 2 ^ 64 → All IsRecord records → last_number last records < 2 ^ 64
last_fits last [] fits h = fits
last_fits last (x ∷ records) fits h = last_fits (number_of x) records (number_fits x (All-head IsRecord x records h)) (All-tail IsRecord x records h)

pub count_fits : (base : ℕ) (blocks : Blocks) (txns : Txns) → base < 2 ^ 64 → IsTxns base blocks txns → base + length txns < 2 ^ 64
count_fits base blocks txns fits h = subst (λ (n : ℕ). n < 2 ^ 64) (last_of base blocks txns h) (last_fits base h.records fits (all_records h.read))
