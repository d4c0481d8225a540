-- While a mount drops transactions each image left now shows those that it keeps, or all that it found.
use Rattle.std.proofs.Common.{◌≡◌, ℕ, ◌⊎◌, inl, inr, List, [], ◌++◌, take, map, sym, subst, ◌∙◌, ap, append-nil}
use Rattle.std.specs.Prelude.{IfSome}
use Rattle.fx_disk.specs.Began.{BeganAs}
use Rattle.fx_disk.specs.Record.{DiskRecord, Cell, cell_after}
use Rattle.fx_disk.specs.Seen.{DiskSeen}
use Rattle.fx_item.specs.Item.{PlainItem}
use Rattle.fx_contents.specs.Points.{Points}
use Rattle.fx_record.specs.Commits.{numbered}
use Rattle.fx_supers.specs.Supers.{SuperCut}
use Rattle.fx_supers.specs.Shown.{ShowsCut}
use Rattle.fx_supers.specs.SessionLog.{HoldsLog, IsSessionLog, KeepsLog, SessionLog}
use Rattle.fx_uses.specs.Live.{Txn, txn_of, AreNumbered}
use Rattle.fx_uses.specs.Uses.{AreUses}
use Rattle.fx_cuts.specs.Joined.{JoinedState, NumberedItems, points_at}
use Rattle.fx_cuts.specs.KeepsJoined.{ShowsFound}
use Rattle.fx_cuts.proofs.PointsUpTo.{least_of, points_beyond}
use Rattle.fx_shown.specs.Meanings.{LayerReading, ShowsTxns, log_meanings}
use Rattle.fx_shown.specs.LogTxns.{LogTxns, HasLogTxns, HaveMountBase, HasMountBase, IsDropping, LayersSayNow, AreSoundFound, last_kept}
use Rattle.fx_shown.proofs.StreamLeft.{Lists, Txns}
use Rattle.fx_shown.proofs.LogCuts.{left-first, shown-now, take-none, when-told}

-- where nothing is committed yet
kept-bare : (last more : ℕ) (kept : Txns) (commits : Lists) → commits ≡ [] → kept ++ numbered last (take more commits) ≡ kept
kept-bare last more kept commits none =
    ap (λ (xs : Lists). kept ++ numbered last (take more xs)) none ∙ ap (λ (xs : Lists). kept ++ numbered last xs) (take-bare more) ∙ append-nil kept
  where
    take-bare : (n : ℕ) → take {A = List PlainItem} n [] ≡ []
    take-bare n = take-none n

module _ (l : LayerReading) (before : ℕ → Cell) (s : JoinedState) (log : SessionLog) (t : LogTxns) (beyond : NumberedItems) (is : IsSessionLog log) (has : HasLogTxns log t) (drops : IsDropping s log t beyond)
    (used : AreUses s.blocks) (txns_are : s.blocks.txns ≡ map txn_of s.txns) where
  opening-here : points_at s s.blocks.base ≡ s.opening
  opening-here = points_beyond s.opening s.txns s.blocks.base (least_of s.blocks.base s.txns (subst (λ (w : List Txn). AreNumbered s.blocks.base w) txns_are used.numbered))

  kept-or_found : (txns : Txns) → (txns ≡ t.found) ⊎ (txns ≡ t.kept) → (txns ≡ s.txns) ⊎ (txns ≡ s.txns ++ beyond)
  kept-or_found txns (inl all) = inr (all ∙ drops.found)
  kept-or_found txns (inr some) = elim drops.kept [
    | inl kept ↦ inl (some ∙ kept)
    | inr all ↦ inr (some ∙ all ∙ drops.found)
  ]

  one-found : (image : List (List ℕ)) (cut : SuperCut) → HasMountBase log cut → ShowsCut log image cut → l.LayersSay image cut.super (points_at s cut.super.base)
      → (txns : Txns) × ShowsTxns l image s.blocks.base (points_at s s.blocks.base) txns × ((txns ≡ s.txns) ⊎ (txns ≡ s.txns ++ beyond))
  one-found image cut m c says =
      let first = left-first l log t is has image cut m c (points_at s cut.super.base) says in
      let here : cut.super.base ≡ s.blocks.base = m.base ∙ sym drops.base in (
        first.0,
        subst (λ (b : ℕ). ShowsTxns l image b (points_at s b) first.0) here first.1,
        kept-or_found first.0 (elim first.2 [
          | inl all ↦ inl all
          | inr more ↦ inr (more.1 ∙ kept-bare (last_kept log.head.super.base t) more.0 t.kept t.commits drops.none)
        ]),
      )

  abbrev pub ShowsFoundNow : DiskRecord → Type 0
  ShowsFoundNow r = (first : List (List ℕ)) → BeganAs r log.from first → ((b : ℕ) → cell_after r log.from b ≡ before b) → LayersSayNow l s log r
      → AreSoundFound (log_meanings l before log.head.super.generation) s beyond r → ShowsFound (log_meanings l before log.head.super.generation) s beyond r

  pub shows-found : (bases : HaveMountBase log) (r : DiskRecord) → KeepsLog log r → ShowsFoundNow r
  shows-found bases r keeps first began same says sound image left formed =
      let c = shown-now before log is r keeps first began same image left formed in
      let one = one-found image c.0 (bases c.0 c.1) c.2 (says c.0 c.1 image left c.2.chosen) in (
        points_at s s.blocks.base,
        one.0,
        one.1,
        λ p. ap (λ (m : Points). m p) opening-here,
        one.2,
        sound image left (points_at s s.blocks.base) one.0 one.1 one.2,
      )

  pub log-shows_found : (seen : DiskSeen) → HoldsLog log seen → HaveMountBase log → IfSome seen.told ShowsFoundNow
  log-shows_found seen h bases = when-told (KeepsLog log) ShowsFoundNow seen.told (shows-found bases) h.told
