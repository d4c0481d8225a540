-- The state beside a log and its transactions, over what happens to them.
use Rattle.std.proofs.Common.{◌≡◌, ℕ, ◌+◌, ◌≤◌, inl, inr, refl, List, [], ◌∷◌, ◌++◌, length, take, sym, subst, ◌∙◌, ap, arith, append_assoc, append-nil, length-append}
use Rattle.std.specs.Prelude.{◌⊎◌, Bool, None, Some, max}
use Rattle.std.proofs.lemmas.List.{take-append-le}
use Rattle.std.proofs.Math.Seq.{take-length}
use Rattle.fx_item.specs.Item.{PlainItem}
use Rattle.fx_record.specs.Commits.{commits_bytes, numbered}
use Rattle.fx_record.proofs.Commits.{numbered-append}
use Rattle.fx_journal.specs.Ring.{Queued, texts}
use Rattle.fx_super.specs.declared.choice.Which.{Which}
use Rattle.fx_log.specs.Log.{LogHead, IsWrittenOut}
use Rattle.fx_supers.specs.Supers.{Origin, SuperCut}
use Rattle.fx_supers.specs.SessionLog.{IsNoEarlier, IsSessionLog, MayCome, SessionLog, closed_session, finished_session, first_in, flushed_session, new_session, put_session, written_session}
use Rattle.fx_logcuts.specs.Cuts.{CutsAt}
use Rattle.fx_logcuts.proofs.CutParts.{Lists, base-rises, cut-now, cut-stays, texts-short}
use Rattle.fx_uses.specs.Uses.{AreUses}
use Rattle.fx_cuts.specs.Joined.{JoinedState, with_based, with_entry}
use Rattle.fx_shown.specs.LogTxns.{LogTxns, HasLogTxns, IsLogState, HasMountBase, HasLaterBase, HaveBases, HaveNoLowerBase, IsBesideLog, last_kept, found_txns, committed_txns}
use Rattle.fx_shown.proofs.StreamLeft.{Txns}

pub state-found : (s : JoinedState) (size from : ℕ) (head : LogHead) (slot : Which) → s.blocks.base ≡ head.super.base → s.blocks.settled ≤ head.super.base + length s.txns → IsLogState s (new_session size from head slot) (found_txns s.txns) 0
state-found s size from head slot base settled = record {
  base = base;
  txns = sym (append-nil s.txns);
  few = omega arith;
  settled = omega (arith, settled);
  stand = omega arith;
}

-- The state is another one with the same base and transactions.
pub state-moved : (s later : JoinedState) (log : SessionLog) (t : LogTxns) (marks : ℕ) → IsLogState s log t marks → later.blocks.base ≡ s.blocks.base → later.txns ≡ s.txns → later.blocks.settled ≤ last_kept log.head.super.base t + marks → IsLogState later log t marks
state-moved s later log t marks h base txns settled = record { base = base ∙ h.base; txns = txns ∙ h.txns; few = h.few; settled = settled; stand = h.stand }

module _ (s : JoinedState) (log : SessionLog) (t : LogTxns) (marks : ℕ) (h : IsLogState s log t marks) where
  abbrev last : ℕ
  last = last_kept log.head.super.base t

  -- more blocks are settled
  grown : (n : ℕ) → log.tail.settled ≤ n → length t.opened + length (commits_bytes last (take marks t.commits)) ≤ length (texts (take n log.tail.blocks))
  grown n le = omega (arith, h.stand, texts-short log.tail.blocks log.tail.settled n le)

  pub state-written : IsLogState s (written_session log) t marks
  state-written = record { base = h.base; txns = h.txns; few = h.few; settled = h.settled; stand = h.stand }

  pub state-put : (cut : SuperCut) (ok : Bool) → IsLogState s (put_session log cut ok) t marks
  state-put cut ok = record { base = h.base; txns = h.txns; few = h.few; settled = h.settled; stand = h.stand }

  module _ (is : IsSessionLog log) where
    pub state-flushed : IsLogState s (flushed_session log) t marks
    state-flushed = record { base = h.base; txns = h.txns; few = h.few; settled = h.settled; stand = grown log.tail.written is.fewer }

    pub state-finished : (cut : SuperCut) → IsLogState s (finished_session log cut) t marks
    state-finished cut = record { base = h.base; txns = h.txns; few = h.few; settled = h.settled; stand = grown (max log.tail.written (first_in cut.origin)) (omega (arith, is.fewer)) }

    still-stands : (closed : List Queued) → length t.opened + length (commits_bytes last (take marks t.commits)) ≤ length (texts (take log.tail.settled (log.tail.blocks ++ closed)))
    still-stands closed = omega (arith, h.stand, ap (λ (qs : List Queued). length (texts qs)) (take-append-le log.tail.settled log.tail.blocks closed (omega (arith, is.fewer, is.most))))

    pub state-closed : (closed : List Queued) (chain : ℕ) (text : List ℕ) → IsLogState s (closed_session log closed chain text) t marks
    state-closed closed chain text = record { base = h.base; txns = h.txns; few = h.few; settled = h.settled; stand = still-stands closed }

    pub state-committed : (who : ℕ) (items : List PlainItem) (closed : List Queued) (chain : ℕ) (text : List ℕ)
        → IsLogState (with_entry s who (last + length t.commits + 1) items) (closed_session log closed chain text) (committed_txns t items) marks
    state-committed who items closed chain text = record {
      base = h.base;
      txns = ap (λ (w : Txns). w ++ (last + length t.commits + 1, items) ∷ []) h.txns
          ∙ append_assoc t.kept (numbered last t.commits) ((last + length t.commits + 1, items) ∷ [])
          ∙ ap (λ (w : Txns). t.kept ++ w) (sym (numbered-append last t.commits (items ∷ [])));
      few = omega (arith, h.few, length-append t.commits (items ∷ []));
      settled = h.settled;
      stand = omega (arith, still-stands closed, ap (λ (xs : Lists). length (commits_bytes last xs)) (take-append-le marks t.commits (items ∷ []) h.few));
    }

-- All is written, and a flush settles it.
pub state-settled : (s : JoinedState) (log : SessionLog) (t : LogTxns) → HasLogTxns log t → IsWrittenOut log.tail → s.blocks.base ≡ log.head.super.base → s.txns ≡ t.kept ++ numbered (last_kept log.head.super.base t) t.commits
    → s.blocks.settled ≤ last_kept log.head.super.base t + length t.commits → IsLogState s (flushed_session log) t (length t.commits)
state-settled s log t has out base txns settled = record {
  base = base;
  txns = txns;
  few = omega arith;
  settled = settled;
  stand =
      let last : ℕ = last_kept log.head.super.base t in
      let whole : texts (take log.tail.written log.tail.blocks) ≡ t.opened ++ commits_bytes last t.commits =
      ap (λ (n : ℕ). texts (take n log.tail.blocks)) out.written ∙ ap texts (take-length log.tail.blocks) ∙ sym (append-nil (texts log.tail.blocks))
      ∙ ap (λ (w : List ℕ). texts log.tail.blocks ++ w) (sym out.text) ∙ has.appended.joined in
      omega (arith, ap length whole, length-append t.opened (commits_bytes last t.commits), ap (λ (xs : Lists). length (commits_bytes last xs)) (take-length t.commits));
}

-- ---- the bases

module _ (s later : JoinedState) (log : SessionLog) (t : LogTxns) (h : HaveBases s log t) (firm : s.blocks.firm ≤ later.blocks.firm) where
  pub bases-moved : HaveBases later log t
  bases-moved cut one = elim (h cut one) [
    | inl m ↦ inl m
    | inr k ↦ inr (record { cut_is = k.cut_is; flushed = let low = k.flushed in omega (arith, low, firm) })
  ]

  pub bases-committed : (items : List PlainItem) (closed : List Queued) (chain : ℕ) (text : List ℕ) → HaveBases later (closed_session log closed chain text) (committed_txns t items)
  bases-committed items closed chain text cut one = elim (h cut one) [
    | inl m ↦ inl (record { origin = m.origin; base = m.base })
    | inr k ↦ inr (record {
      cut_is = record {
        n = k.cut_is.n;
        count = k.cut_is.count;
        origin = k.cut_is.origin;
        at = cut-stays t.opened (last_kept log.head.super.base t) log.tail.blocks t.commits k.cut_is.n k.cut_is.count k.cut_is.at closed (items ∷ []);
        base = k.cut_is.base;
      };
      flushed = let low = k.flushed in omega (arith, low, firm);
    })
  ]

pub bases-written : (s : JoinedState) (log : SessionLog) (t : LogTxns) → HaveBases s log t → HaveBases s (written_session log) t
bases-written s log t h cut one = elim (h cut one) [
  | inl m ↦ inl (record { origin = m.origin; base = m.base })
  | inr k ↦ inr (record { cut_is = k.cut_is; flushed = k.flushed })
]

pub bases-flushed : (s : JoinedState) (log : SessionLog) (t : LogTxns) → HaveBases s log t → HaveBases s (flushed_session log) t
bases-flushed s log t h cut one = elim (h cut one) [
  | inl m ↦ inl (record { origin = m.origin; base = m.base })
  | inr k ↦ inr (record { cut_is = k.cut_is; flushed = k.flushed })
]

pub bases-closed : (s : JoinedState) (log : SessionLog) (t : LogTxns) → HaveBases s log t → (closed : List Queued) (chain : ℕ) (text : List ℕ) → HaveBases s (closed_session log closed chain text) t
bases-closed s log t h closed chain text cut one = elim (h cut one) [
  | inl m ↦ inl (record { origin = m.origin; base = m.base })
  | inr k ↦ inr (record {
    cut_is = record {
      n = k.cut_is.n;
      count = k.cut_is.count;
      origin = k.cut_is.origin;
      at = subst (λ (xs : Lists). CutsAt t.opened (last_kept log.head.super.base t) (log.tail.blocks ++ closed) xs k.cut_is.n k.cut_is.count) (append-nil t.commits)
          (cut-stays t.opened (last_kept log.head.super.base t) log.tail.blocks t.commits k.cut_is.n k.cut_is.count k.cut_is.at closed []);
      base = k.cut_is.base;
    };
    flushed = k.flushed;
  })
]

-- A superblock that begins after all that was appended, with nothing unfinished.
pub later-now : (s : JoinedState) (log : SessionLog) (t : LogTxns) (cut : SuperCut) → HasLogTxns log t → log.tail.text ≡ [] → cut.origin ≡ Some (length log.tail.blocks) → cut.super.base ≡ last_kept log.head.super.base t + length t.commits → cut.super.base ≤ s.blocks.firm → HasLaterBase s log t cut
later-now s log t cut has none origin base firm = record {
  cut_is = record {
    n = length log.tail.blocks;
    count = length t.commits;
    origin = origin;
    at = cut-now t.opened (last_kept log.head.super.base t) log.tail.blocks t.commits (record {
      each = has.appended.each;
      joined = ap (λ (w : List ℕ). texts log.tail.blocks ++ w) (sym none) ∙ has.appended.joined;
    });
    base = base;
  };
  flushed = firm;
}

-- ---- a superblock's base never falls

-- one that may come has no lower base than the current one
next-base : (s : JoinedState) (log : SessionLog) (t : LogTxns) (former latter : SuperCut) → HasMountBase log former ⊎ HasLaterBase s log t former → HasMountBase log latter ⊎ HasLaterBase s log t latter → MayCome former latter → former.super.base ≤ latter.super.base
next-base s log t former latter (inl a) (inl b) comes = omega (arith, a.base, b.base)
next-base s log t former latter (inl a) (inr b) comes = let up = b.cut_is.base in omega (arith, a.base, up)
next-base s log t former latter (inr a) (inl b) comes = absurd (subst (λ (o : Origin). IsNoEarlier o None) a.cut_is.origin (subst (λ (o : Origin). IsNoEarlier former.origin o) b.origin comes.later))
next-base s log t former latter (inr a) (inr b) comes = base-rises t.opened (last_kept log.head.super.base t) log.tail.blocks t.commits former latter a.cut_is b.cut_is comes.later

pub above-found : (s : JoinedState) (size from : ℕ) (head : LogHead) (slot : Which) → s.based ≤ head.super.base → HaveNoLowerBase s (new_session size from head slot)
above-found s size from head slot le cut (inl e) = subst (λ (n : ℕ). s.based ≤ n) (sym (ap (λ (c : SuperCut). c.super.base) e)) le
above-found s size from head slot le cut (inr e) = let z : None ≡ Some cut = e in absurd (cc)

pub above-put : (s : JoinedState) (log : SessionLog) (t : LogTxns) (marks : ℕ) (cut : SuperCut) (ok : Bool) → IsBesideLog s log t marks → HasMountBase log cut ⊎ HasLaterBase s log t cut → MayCome log.supers.current cut → HaveNoLowerBase s (put_session log cut ok)
above-put s log t marks cut ok h new comes other (inl e) = h.above other (inl e)
above-put s log t marks cut ok h new comes other (inr e) =
    let same : cut ≡ other = (let z : Some cut ≡ Some other = e in cc) in
    let low : s.based ≤ log.supers.current.super.base = h.above log.supers.current (inl refl) in
    let up : log.supers.current.super.base ≤ cut.super.base = next-base s log t log.supers.current cut (h.bases log.supers.current (inl refl)) new comes in
    subst (λ (c : SuperCut). s.based ≤ c.super.base) same (omega (arith, low, up))

pub above-finished : (s : JoinedState) (log : SessionLog) (cut : SuperCut) → HaveNoLowerBase (with_based s cut.super.base) (finished_session log cut)
above-finished s log cut other (inl e) = subst (λ (n : ℕ). cut.super.base ≤ n) (sym (ap (λ (c : SuperCut). c.super.base) e)) (omega arith)
above-finished s log cut other (inr e) = let z : None ≡ Some other = e in absurd (cc)

pub above-moved : (s later : JoinedState) (log : SessionLog) → HaveNoLowerBase s log → later.based ≡ s.based → HaveNoLowerBase later log
above-moved s later log h same cut one = let low = h cut one in omega (arith, same, low)

-- what the flush that settles the coming superblock asks of its base
pub base-bounds : (s : JoinedState) (log : SessionLog) (t : LogTxns) (marks : ℕ) (cut : SuperCut) → IsBesideLog s log t marks → AreUses s.blocks → log.supers.coming ≡ Some cut → (s.based ≤ cut.super.base) × (cut.super.base ≤ s.blocks.firm)
base-bounds s log t marks cut h used coming = (
  h.above cut (inr coming),
  elim (h.bases cut (inr coming)) [
    | inl m ↦ omega (arith, m.base, h.state.base, used.marked, used.firm)
    | inr k ↦ k.flushed
  ],
)
