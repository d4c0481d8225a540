-- The transactions beside a log, over what happens to it.
use Rattle.std.proofs.Common.{◌≡◌, ℕ, ◌+◌, ◌^◌, ◌<◌, ◌⊎◌, inl, inr, List, [], ◌∷◌, ◌++◌, length, refl, sym, subst, ◌∙◌, ap, arith, append_assoc, append-nil, length-append}
use Rattle.std.specs.Prelude.{Bool, Some, None}
use Rattle.std.proofs.lemmas.List.Elements.{All-nil, All-push}
use Rattle.fx_item.specs.Item.{PlainItem}
use Rattle.fx_record.specs.Record.{DiscardRecord, record_bytes}
use Rattle.fx_record.specs.Commits.{IsCommit, commits_bytes}
use Rattle.fx_record.specs.Txns.{IsTxns}
use Rattle.fx_record.proofs.Commits.{commits_bytes-append}
use Rattle.fx_journal.specs.Ring.{Queued, texts}
use Rattle.fx_super.specs.declared.choice.Which.{Which}
use Rattle.fx_log.specs.Log.{LogHead}
use Rattle.fx_supers.specs.InMemory.{AppendsTo}
use Rattle.fx_supers.specs.Supers.{SuperCut}
use Rattle.fx_supers.specs.SessionLog.{SessionLog, closed_session, finished_session, flushed_session, new_session, put_session, written_session}
use Rattle.fx_logcuts.specs.Cuts.{pieces_in}
use Rattle.fx_logcuts.proofs.CutParts.{texts-joined}
use Rattle.fx_cuts.specs.Joined.{JoinedState, NumberedItems}
use Rattle.fx_shown.specs.LogTxns.{LogTxns, HasLogTxns, HasMountBase, HasLaterBase, HaveBases, last_kept, found_txns, dropped_txns, committed_txns}

pub txns-found : (size from : ℕ) (head : LogHead) (slot : Which) (found : NumberedItems) → IsTxns head.super.base (pieces_in head.read) found → head.super.base + length found < 2 ^ 64 → HasLogTxns (new_session size from head slot) (found_txns found)
txns-found size from head slot found h fits = record {
  found = h;
  opens = inl (refl, refl);
  appended = record { each = All-nil IsCommit; joined = refl };
  fits = omega (arith, fits);
}

pub bases-found : (s : JoinedState) (size from : ℕ) (head : LogHead) (slot : Which) (t : LogTxns) → HaveBases s (new_session size from head slot) t
bases-found s size from head slot t cut (inl e) = inl (record { origin = ap (λ (c : SuperCut). c.origin) e; base = ap (λ (c : SuperCut). c.super.base) e })
bases-found s size from head slot t cut (inr e) = let z : None ≡ Some cut = e in absurd (cc)

-- bytes that are appended
appended-texts : (log : SessionLog) (before bytes : List ℕ) (closed : List Queued) (chain : ℕ) (text : List ℕ) → AppendsTo log bytes closed chain text → texts log.tail.blocks ++ log.tail.text ≡ before → texts (log.tail.blocks ++ closed) ++ text ≡ before ++ bytes
appended-texts log before bytes closed chain text a e =
    ap (λ (w : List ℕ). w ++ text) (texts-joined log.tail.blocks closed)
    ∙ append_assoc (texts log.tail.blocks) (texts closed) text
    ∙ ap (λ (w : List ℕ). texts log.tail.blocks ++ w) a.joined
    ∙ sym (append_assoc (texts log.tail.blocks) log.tail.text bytes)
    ∙ ap (λ (w : List ℕ). w ++ bytes) e

module _ (log : SessionLog) (t : LogTxns) (h : HasLogTxns log t) where
  abbrev last : ℕ
  last = last_kept log.head.super.base t

  pub txns-committed : (items : List PlainItem) (closed : List Queued) (chain : ℕ) (text : List ℕ) → IsCommit items → last + length t.commits + 1 < 2 ^ 64 → AppendsTo log (commits_bytes (last + length t.commits) (items ∷ [])) closed chain text
      → HasLogTxns (closed_session log closed chain text) (committed_txns t items)
  txns-committed items closed chain text is fits a = record {
    found = h.found;
    opens = elim h.opens [
      | inl all ↦ inl all
      | inr d ↦ inr (record { beyond = d.beyond; found_are = d.found_are; opened_is = d.opened_is })
    ];
    appended = record {
      each = All-push IsCommit t.commits items h.appended.each is;
      joined = appended-texts log (t.opened ++ commits_bytes last t.commits) (commits_bytes (last + length t.commits) (items ∷ [])) closed chain text a h.appended.joined
          ∙ append_assoc t.opened (commits_bytes last t.commits) (commits_bytes (last + length t.commits) (items ∷ []))
          ∙ ap (λ (w : List ℕ). t.opened ++ w) (sym (commits_bytes-append last t.commits (items ∷ [])));
    };
    fits = omega (arith, fits, length-append t.commits (items ∷ []));
  }

  pub txns-closed : (closed : List Queued) (chain : ℕ) (text : List ℕ) → AppendsTo log [] closed chain text → HasLogTxns (closed_session log closed chain text) t
  txns-closed closed chain text a = record {
    found = h.found;
    opens = h.opens;
    appended = record {
      each = h.appended.each;
      joined = appended-texts log (t.opened ++ commits_bytes last t.commits) [] closed chain text a h.appended.joined ∙ append-nil (t.opened ++ commits_bytes last t.commits);
    };
    fits = h.fits;
  }

  pub txns-written : HasLogTxns (written_session log) t
  txns-written = record { found = h.found; opens = h.opens; appended = h.appended; fits = h.fits }

  pub txns-flushed : HasLogTxns (flushed_session log) t
  txns-flushed = record { found = h.found; opens = h.opens; appended = h.appended; fits = h.fits }

  pub txns-put : (cut : SuperCut) (ok : Bool) → HasLogTxns (put_session log cut ok) t
  txns-put cut ok = record { found = h.found; opens = h.opens; appended = h.appended; fits = h.fits }

  pub txns-finished : (cut : SuperCut) → HasLogTxns (finished_session log cut) t
  txns-finished cut = record { found = h.found; opens = h.opens; appended = h.appended; fits = h.fits }

-- The record that drops what is not kept is appended, before any commit.
pub txns-dropped : (log : SessionLog) (kept beyond : NumberedItems) (closed : List Queued) (chain : ℕ) (text : List ℕ) → HasLogTxns log (found_txns (kept ++ beyond)) → AppendsTo log (record_bytes (DiscardRecord (log.head.super.base + length kept))) closed chain text
    → HasLogTxns (closed_session log closed chain text) (dropped_txns log.head.super.base kept beyond)
txns-dropped log kept beyond closed chain text h a = record {
  found = h.found;
  opens = inr (record { beyond = beyond; found_are = refl; opened_is = refl });
  appended = record {
    each = All-nil IsCommit;
    joined = appended-texts log [] (record_bytes (DiscardRecord (log.head.super.base + length kept))) closed chain text a h.appended.joined
        ∙ sym (append-nil (record_bytes (DiscardRecord (log.head.super.base + length kept))));
  };
  fits = let low = h.fits in omega (arith, low, length-append kept beyond);
}

-- ---- the bases

pub bases-put : (s : JoinedState) (log : SessionLog) (t : LogTxns) (cut : SuperCut) (ok : Bool) → HaveBases s log t → HasMountBase log cut ⊎ HasLaterBase s log t cut → HaveBases s (put_session log cut ok) t
bases-put s log t cut ok h new other (inl e) = elim (h other (inl e)) [
  | inl m ↦ inl (record { origin = m.origin; base = m.base })
  | inr k ↦ inr (record { cut_is = k.cut_is; flushed = k.flushed })
]
bases-put s log t cut ok h new other (inr e) =
    let same : cut ≡ other = (let z : Some cut ≡ Some other = e in cc) in
    elim new [
      | inl m ↦ inl (record { origin = ap (λ (c : SuperCut). c.origin) (sym same) ∙ m.origin; base = ap (λ (c : SuperCut). c.super.base) (sym same) ∙ m.base })
      | inr k ↦ inr (subst (λ (c : SuperCut). HasLaterBase s (put_session log cut ok) t c) same (record { cut_is = k.cut_is; flushed = k.flushed }))
    ]

pub bases-finished : (s : JoinedState) (log : SessionLog) (t : LogTxns) (cut : SuperCut) → HaveBases s log t → log.supers.coming ≡ Some cut → HaveBases s (finished_session log cut) t
bases-finished s log t cut h coming other (inl e) =
    elim (h cut (inr coming)) [
      | inl m ↦ inl (record { origin = ap (λ (c : SuperCut). c.origin) e ∙ m.origin; base = ap (λ (c : SuperCut). c.super.base) e ∙ m.base })
      | inr k ↦ inr (subst (λ (c : SuperCut). HasLaterBase s (finished_session log cut) t c) (sym e) (record { cut_is = k.cut_is; flushed = k.flushed }))
    ]
bases-finished s log t cut h coming other (inr e) = let z : None ≡ Some other = e in absurd (cc)
