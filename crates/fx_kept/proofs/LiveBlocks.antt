-- What the cells have of a block that is live after a number which an image may keep.
use Rattle.std.proofs.Common.{◌≡◌, ℕ, ◌<◌, ◌≤◌, false, List, length, sym, subst, ◌∙◌, arith, Some}
use Rattle.fx_disk.specs.Record.{DiskRecord, cell_now}
use Rattle.fx_uses.specs.Live.{IsPut, live_after}
use Rattle.fx_uses.specs.Uses.{BlockUses, AreUses, CellsHold, last, Want, Firm, HasWanted, IsGood, bytes_now}
use Rattle.fx_uses.proofs.UseOverEvent.{ours_since}
use Rattle.fx_kept.proofs.KeptContents.{IsShown, shown_some}

module _ (sum : List ℕ → ℕ) (s : BlockUses) (r : DiskRecord) (h : AreUses s) (held : CellsHold sum s r) (k b x : ℕ) (ge : s.settled ≤ k) (le : k ≤ last s) (live : live_after s.first s.txns k b ≡ Some x) where
  shown : IsShown k (s.uses b) (s.sums b) x
  shown = shown_some k (s.uses b) (s.sums b) x (sym (h.live_is k b ge le) ∙ live)

  has : HasWanted (length r.entry) b s.firm (Firm shown.since) (cell_now r b)
  has = subst (λ (w : Want). HasWanted (length r.entry) b s.firm w (cell_now r b)) shown.wants (held.each b)

  pub live_good : IsGood (length r.entry) b (cell_now r b)
  live_good = has.0

  pub live_firm : k ≤ s.firm → (cell_now r b).loose ≡ false
  live_firm within = has.1 (omega (arith, shown.most, within))

  pub live_stated : (n : ℕ) → IsPut s.txns n b → sum (bytes_now r b) ≡ x
  live_stated n put =
      let after : s.base < shown.since = h.put b shown.since n shown.since_is put in
      held.stated b (ours_since s.right (s.uses b) shown.since shown.since_is (omega (arith, after, h.right))) ∙ shown.same
