-- Which transactions a stream leaves that goes on from what a mount read: records of one more epoch, of
-- the mount and of its commits, cut off anywhere.
use Rattle.std.proofs.Common.{◌≡◌, ℕ, zero, suc, ◌+◌, ◌-◌, ◌^◌, ◌≤◌, ◌<◌, ◌⊎◌, inl, inr, leb, List, [], ◌∷◌, ◌++◌, length, take, refl, sym, subst, ◌∙◌, ap, arith, append-nil, length-append}
use Rattle.std.specs.Prelude.{All, IsTrue, ◌&&◌}
use Rattle.std.specs.List.{concat}
use Rattle.std.proofs.lemmas.Bool.{cases_lt, le-leb, and_from}
use Rattle.std.proofs.lemmas.List.{length-take, take_at}
use Rattle.std.proofs.lemmas.List.Elements.{All-cons, All-take}
use Rattle.fx_item.specs.Item.{PlainItem}
use Rattle.fx_record.specs.Record.{PlainRecord, DiscardRecord, IsRecord, record_bytes}
use Rattle.fx_record.specs.Reading.{IsCut}
use Rattle.fx_record.specs.Txns.{Front, IsTxns, epoch_texts, in_order}
use Rattle.fx_record.specs.Commits.{AreBefore, CutsRecords, IsCommit, blocks_of, commits_bytes, numbered, records_bytes, records_of}
use Rattle.fx_record.proofs.Commits.{are_records, length-records_of, ordered_commits, take-records_of}
use Rattle.fx_record.proofs.Counted.{last_of}
use Rattle.fx_record.proofs.Cuts.{cut_records}
use Rattle.fx_record.proofs.Epochs.{are_of, bytes_are, front_before, records_front, texts_more}
use Rattle.fx_record.proofs.Fronts.{front_then}
use Rattle.fx_record.proofs.Numbers.{in_order_join}
use Rattle.fx_record.proofs.Sessions.{stopped_session}
use Rattle.fx_record.proofs.Steps.{discard_text}
use Rattle.fx_kept.proofs.FoldedTxns.{left_with_discard}
use Rattle.fx_shown.specs.LogTxns.{LogTxns, DropsAfter, IsOpenedBy, last_kept}

abbrev pub Lists : Type 0
Lists = List (List PlainItem)

abbrev pub Txns : Type 0
Txns = List (ℕ × List PlainItem)

abbrev Blocks : Type 0
Blocks = List (ℕ × List ℕ)

-- One more text with a cut record or nothing.
found-still : (base : ℕ) (read after : Blocks) (found : Txns) (text : List ℕ) → IsTxns base read found → epoch_texts after ≡ epoch_texts read ++ text ∷ [] → IsCut text → IsTxns base after found
found-still base read after found text h same cut = record {
  records = h.records;
  read = subst (λ (w : List (List ℕ)). Front w h.records []) (sym same)
      (subst (λ (xs : List PlainRecord). Front (epoch_texts read ++ text ∷ []) xs []) (append-nil h.records) (front_then (front_before (text ∷ []) h.read) (Front.Dropped cut Front.Nothing)));
  ordered = h.ordered;
  txns_are = h.txns_are;
}

-- One more text with the record that drops those beyond a number, and these commits, and a cut record or nothing.
found-dropped : (base d : ℕ) (read after : Blocks) (found kept beyond : Txns) (commits : Lists) (text tail : List ℕ) → IsTxns base read found → found ≡ kept ++ beyond → d ≡ base + length kept
    → epoch_texts after ≡ epoch_texts read ++ text ∷ [] → All IsRecord (DiscardRecord d ∷ records_of d commits) → text ≡ records_bytes (DiscardRecord d ∷ records_of d commits) ++ tail → IsCut tail → IsTxns base after (kept ++ numbered d commits)
found-dropped base d read after found kept beyond commits text tail h e at same all parts cut =
    let rs : List PlainRecord = DiscardRecord d ∷ records_of d commits in
    let end : ℕ = base + length found in
    let most : d ≤ end = omega (arith, at, ap length e, length-append kept beyond) in
    let least : base ≤ d = omega (arith, at) in
    let next = last_of base read found h in
    let comes : IsTrue (in_order base end rs) = and_from (leb base d && leb d end) (in_order base d (records_of d commits)) (and_from (leb base d) (leb d end) (le-leb base d least) (le-leb d end most)) (ordered_commits base d commits) in
    let front : take (d - base) found ≡ kept = ap (take (d - base)) e ∙ take_at kept beyond (d - base) (omega (arith, at)) in
    record {
      records = h.records ++ rs;
      read = subst (λ (w : List (List ℕ)). Front w (h.records ++ rs) []) (sym same) (front_then (front_before (text ∷ []) h.read) (records_front rs text tail all parts cut));
      ordered = in_order_join base base h.records rs h.ordered (subst (λ (n : ℕ). IsTrue (in_order base n rs)) (sym next) comes);
      txns_are = ap (λ (w : Txns). w ++ numbered d commits) (sym front ∙ ap (take (d - base)) h.txns_are)
          ∙ sym (left_with_discard base h.records d commits h.ordered least (omega (arith, most, next)));
    }

-- ---- what is left

module _ (base epoch : ℕ) (read : Blocks) (t : LogTxns) (h : IsTxns base read t.found) (before : AreBefore epoch read) (each : All IsCommit t.commits) (fits : last_kept base t + length t.commits < 2 ^ 64) where
  abbrev last : ℕ
  last = last_kept base t

  -- the records of the mount are whole, and of the commits at least those that lie in the texts
  abbrev pub LeavesMore : List (List ℕ) → Txns → Type 0
  LeavesMore ts txns = (more : ℕ) × (more ≤ length t.commits) × (txns ≡ t.kept ++ numbered last (take more t.commits))
      × ((marks : ℕ) → marks ≤ length t.commits → length t.opened + length (commits_bytes last (take marks t.commits)) ≤ length (concat ts) → marks ≤ more)

  abbrev pub Leaves : List (List ℕ) → Type 0
  Leaves ts = (txns : Txns) × IsTxns base (read ++ blocks_of epoch ts) txns × (((txns ≡ t.found) × (length (concat ts) < length t.opened)) ⊎ LeavesMore ts txns)

  plain : t.opened ≡ [] → t.kept ≡ t.found → (ts : List (List ℕ)) (rest : List ℕ) → concat ts ++ rest ≡ t.opened ++ commits_bytes last t.commits → Leaves ts
  plain none all ts rest joined =
      let s = stopped_session base epoch read t.kept t.commits ts rest (subst (IsTxns base read) (sym all) h) before fits each (joined ∙ ap (λ (w : List ℕ). w ++ commits_bytes last t.commits) none) in
      (t.kept ++ numbered last (take s.0 t.commits), s.2, inr (s.0, s.1.most, refl, λ marks few held. s.1.whole marks few (omega (arith, held))))

  module _ (d : DropsAfter base t) where
    abbrev rs : List PlainRecord
    rs = DiscardRecord last ∷ records_of last t.commits

    all-records : All IsRecord rs
    all-records = All-cons IsRecord (DiscardRecord last) (records_of last t.commits) (omega (arith, fits)) (are_records last t.commits fits each)

    opened-long : length t.opened ≡ 13
    opened-long = ap length d.opened_is ∙ discard_text last

    by-count : (b : List ℕ) (ts : List (List ℕ)) (count : ℕ) → CutsRecords rs (concat (b ∷ ts)) count → Leaves (b ∷ ts)
    by-count b ts zero cut =
        let texts : epoch_texts (read ++ blocks_of epoch (b ∷ ts)) ≡ epoch_texts read ++ concat (b ∷ ts) ∷ [] =
        texts_more epoch read (epoch, b) (blocks_of epoch ts) before (are_of epoch (b ∷ ts)) ∙ ap (λ (w : List ℕ). epoch_texts read ++ w ∷ []) (bytes_are epoch (b ∷ ts)) in (
          t.found,
          found-still base read (read ++ blocks_of epoch (b ∷ ts)) t.found (concat (b ∷ ts)) h texts (subst IsCut (sym cut.parts) cut.is_cut),
          inl (
            refl,
            elim (cases_lt (length (concat (b ∷ ts))) (length t.opened)) [
              | inl lt ↦ lt
              | inr ge ↦ (
                  let one : 1 ≤ 0 = cut.whole 1 (omega arith) (omega (arith, ge, opened-long, discard_text last, ap length (append-nil (record_bytes (DiscardRecord last))))) in
                  absurd (omega (arith, one)))
            ],
          ),
        )
    by-count b ts (suc m) cut =
        let texts : epoch_texts (read ++ blocks_of epoch (b ∷ ts)) ≡ epoch_texts read ++ concat (b ∷ ts) ∷ [] =
        texts_more epoch read (epoch, b) (blocks_of epoch ts) before (are_of epoch (b ∷ ts)) ∙ ap (λ (w : List ℕ). epoch_texts read ++ w ∷ []) (bytes_are epoch (b ∷ ts)) in
        let most : m ≤ length t.commits = omega (arith, cut.most, length-records_of last t.commits) in
        let some : take m (records_of last t.commits) ≡ records_of last (take m t.commits) = take-records_of last m t.commits in (
          t.kept ++ numbered last (take m t.commits),
          found-dropped base last read (read ++ blocks_of epoch (b ∷ ts)) t.found t.kept d.beyond (take m t.commits) (concat (b ∷ ts)) cut.tail h d.found_are refl texts
              (All-cons IsRecord (DiscardRecord last) (records_of last (take m t.commits)) (omega (arith, fits)) (first-records m))
              (cut.parts ∙ ap (λ (xs : List PlainRecord). records_bytes (DiscardRecord last ∷ xs) ++ cut.tail) some) cut.is_cut,
          inr (
            m,
            most,
            refl,
            λ marks few held.
                let bytes : records_bytes (take marks (records_of last t.commits)) ≡ commits_bytes last (take marks t.commits) = ap records_bytes (take-records_of last marks t.commits) in
                let up : suc marks ≤ suc m = cut.whole (suc marks) (omega (arith, few, length-records_of last t.commits))
                (omega (arith, held, opened-long, discard_text last, ap length bytes, length-append (record_bytes (DiscardRecord last)) (records_bytes (take marks (records_of last t.commits))))) in
                omega (arith, up),
          ),
        )
      where
        first-records : (k : ℕ) → All IsRecord (records_of last (take k t.commits))
        first-records k = are_records last (take k t.commits) (omega (arith, fits, length-take k t.commits)) (All-take IsCommit k t.commits each)

    dropping : (ts : List (List ℕ)) (rest : List ℕ) → concat ts ++ rest ≡ t.opened ++ commits_bytes last t.commits → Leaves ts
    dropping [] rest joined = (t.found, subst (λ (w : Blocks). IsTxns base w t.found) (sym (append-nil read)) h, inl (refl, omega (arith, opened-long)))
    dropping (b ∷ ts) rest joined =
        let cut = cut_records rs (concat (b ∷ ts)) rest all-records (joined ∙ ap (λ (w : List ℕ). w ++ commits_bytes last t.commits) d.opened_is) in
        by-count b ts cut.0 cut.1

  pub stream-leaves : IsOpenedBy base t → (ts : List (List ℕ)) (rest : List ℕ) → concat ts ++ rest ≡ t.opened ++ commits_bytes last t.commits → Leaves ts
  stream-leaves (inl all) ts rest joined = plain all.0 all.1 ts rest joined
  stream-leaves (inr d) ts rest joined = dropping d ts rest joined
