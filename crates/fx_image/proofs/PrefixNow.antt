-- What a mounted disk with a journal leaves now.
use Rattle.std.proofs.Common.{◌≡◌, ◌≤◌, ◌+◌, ℕ, List, length, sym, subst, arith, inl, inr}
use Rattle.std.specs.Prelude.{None}
use Rattle.fx_disk.specs.Record.{DiskRecord, LeftNow, cell_after, cell_now}
use Rattle.fx_jblock.specs.declared.Start.{Start}
use Rattle.fx_journal.specs.declared.stream.StreamBlock.{StreamBlock}
use Rattle.fx_plain.specs.Tree.{Tree}
use Rattle.fx_record.specs.Txns.{IsTxns}
use Rattle.fx_record.proofs.Fronts.{one_answer}
use Rattle.fx_super.specs.Super.{Fields}
use Rattle.fx_disk.specs.Began.{BeganAs}
use Rattle.fx_log.specs.Chance.{NotByChance}
use Rattle.fx_log.specs.Log.{IsWrittenOut}
use Rattle.fx_log.specs.Ring.{BeganWith}
use Rattle.fx_supers.specs.Supers.{SuperCut}
use Rattle.fx_supers.specs.SessionLog.{KeepsLog}
use Rattle.fx_supers.specs.Shown.{ShowsCut}
use Rattle.fx_supers.proofs.LogShown.{shows-log}
use Rattle.fx_log.proofs.RingClosed.{rules-begun}
use Rattle.fx_log.proofs.SuperChoice.{one_super, stream_chosen}
use Rattle.fx_image.specs.Standing.{Transactions, IsImage, HasAmpleRoom, stream_pieces}
use Rattle.fx_image.specs.Prefix.{HasWholeHistory, Began, KeepsAll}
use Rattle.fx_image.specs.Journal.{IsMountCut, Journal, IsJournal}
use Rattle.fx_image.proofs.PrefixImage.{prefix-at, under, whole-at}
use Rattle.fx_image.proofs.PrefixCalls.{StandsByChance, KeepsNow}

-- What it began as is what was read.
pub began-super : (size from base : ℕ) (tree : Tree) (r : DiskRecord) (image : List (List ℕ)) (f g : Fields) (txns : Transactions) (read : List StreamBlock) (place : Start)
    → Began size from base tree r image f txns → BeganWith r from g image read place → f ≡ g
began-super size from base tree r image f g txns read place began with = one_super image f g began.image_is.chosen with.chosen

pub began-txns : (size from base : ℕ) (tree : Tree) (r : DiskRecord) (image : List (List ℕ)) (f : Fields) (txns old : Transactions) (read : List StreamBlock) (place : Start)
    → Began size from base tree r image f txns → BeganWith r from f image read place → IsTxns f.base (stream_pieces read) old → txns ≡ old
began-txns size from base tree r image f txns old read place began with are =
    let is : IsImage size image f txns tree = began.image_is in
    let same = stream_chosen image f is.next place is.stream read (rules-begun r from f image read place with) is.stream_is with.stream in
    one_answer f.base (stream_pieces read) txns old (subst (λ (s : List StreamBlock). IsTxns f.base (stream_pieces s) txns) same.0 is.txns_are) are

-- What holds of it for the superblock and the transactions that were read holds for those that it began with.
pub began-read : (size from base : ℕ) (tree : Tree) (r : DiskRecord) (image : List (List ℕ)) (f g : Fields) (txns old : Transactions) (read : List StreamBlock) (place : Start) (P : Fields → Transactions → Type 0)
    → Began size from base tree r image f txns → BeganWith r from g image read place → IsTxns g.base (stream_pieces read) old → P g old → P f txns
began-read size from base tree r image f g txns old read place P began with are here =
    let same : f ≡ g = began-super size from base tree r image f g txns read place began with in
    subst (λ (x : Fields). P x txns) (sym same)
    (subst (P g) (sym (began-txns size from base tree r image g txns old read place (subst (λ (x : Fields). Began size from base tree r image x txns) same began) with are)) here)

module _ (j : Journal) (calls : ℕ) (h : IsJournal j calls) (r : DiskRecord) (d : KeepsLog j.log r) where
  -- the superblock that was read, under some generation, and the stream from its start
  abbrev Shows : List (List ℕ) → Type 0
  Shows left = (n : ℕ) × (n ≤ j.log.head.super.generation + 1) × ShowsCut j.log left (record { super = under j.log.head.super n; origin = None })

  shows-mount_cut : (left : List (List ℕ)) (cut : SuperCut) → IsMountCut j.log.head.super cut → ShowsCut j.log left cut → Shows left
  shows-mount_cut left cut is shows = (cut.super.generation, is.most, subst (λ (c : SuperCut). ShowsCut j.log left c) is.same shows)

  shows-now : (first left : List (List ℕ)) → BeganAs r j.log.from first → LeftNow r left → NotByChance (cell_after r j.log.from) (cell_now r) j.log.head.super.generation left → Shows left
  shows-now first left began is chance = elim (shows-log j.log h.log first r (d.has first began) left is chance) [
    | inl old ↦ shows-mount_cut left j.log.supers.current h.uncut.current old
    | inr new ↦ shows-mount_cut left new.0 (h.uncut.coming new.0 new.1) new.2
  ]

  pub keeps-now : KeepsNow j.log.size j.log.from j.opening.tree j.opening.base j.commits.history r
  keeps-now image f txns began left is =
      began-read j.log.size j.log.from j.opening.base j.opening.tree r image f j.log.head.super txns j.opening.txns j.log.head.read j.log.head.place
      (λ g old. StandsByChance (cell_after r j.log.from) g j.log.size (HasAmpleRoom g old) j.opening.tree j.opening.base j.commits.history (cell_now r) (length r.calls) left)
      began (d.has image began.begins).began h.reading.txns_are
      (λ chance. let found = shows-now image left began.begins is chance in prefix-at j calls h left found.0 found.1 found.2 (length r.calls))

  pub keeps-all : IsWrittenOut j.log.tail → j.log.tail.settled ≡ j.log.tail.written → KeepsAll j.log.size j.log.from j.opening.tree j.opening.base j.commits.history r
  keeps-all out all = record {
    each = λ image f txns began left is.
        began-read j.log.size j.log.from j.opening.base j.opening.tree r image f j.log.head.super txns j.opening.txns j.log.head.read j.log.head.place
        (λ g old. NotByChance (cell_after r j.log.from) (cell_now r) g.generation left → HasWholeHistory j.log.size j.opening.tree j.opening.base j.commits.history left)
        began (d.has image began.begins).began h.reading.txns_are
        (λ chance. let found = shows-now image left began.begins is chance in whole-at j calls h left found.0 found.1 found.2 (omega (arith, all, out.written)) out.text);
  }
