-- A log over the calls of its disk, told or not, made or not.
use Rattle.std.proofs.Common.{◌≡◌, ℕ, ◌+◌, ◌≤◌, ◌<◌, List, Bool, true, false, inl, inr, length, refl, sym, subst, ◌∙◌, ap, arith, Option, Some, None, IfSome}
use Rattle.std.specs.Prelude.{slice_get, []}
use Rattle.std.proofs.Math.Seq.{ext_get_or}
use Rattle.std.proofs.lemmas.Option.{slice_get_within}
use Rattle.fx_disk.specs.Record.{DiskRecord, Cell, LeftNow, cell_after, cell_now}
use Rattle.fx_disk.specs.Began.{BeganAs}
use Rattle.fx_disk.specs.Seen.{DiskSeen, HasWritten, HasFlushed}
use Rattle.fx_disk.specs.Steps.{IsRecordOf, Writes, Flushes, with_flush}
use Rattle.fx_disk.proofs.Began.{cell_after-now}
use Rattle.fx_disk.proofs.Cells.{IsFixed, fixed-after}
use Rattle.fx_disk.proofs.Told.{told-map, told-both, told-write, told-flush}
use Rattle.fx_super.specs.Super.{super_block}
use Rattle.fx_super.specs.Chosen.{IsChosen, block_number, other}
use Rattle.fx_super.specs.declared.choice.Which.{Which}
use Rattle.fx_journal.specs.Ring.{Queued}
use Rattle.fx_journal.specs.Stream.{IsStream}
use Rattle.fx_log.specs.Chance.{NotByChance}
use Rattle.fx_log.specs.Chosen.{ChoosesSuper, start_of}
use Rattle.fx_log.specs.Log.{LogHead, IsHead}
use Rattle.fx_log.specs.Ring.{place_in, bytes_in}
use Rattle.fx_supers.specs.Supers.{SuperCut}
use Rattle.fx_supers.specs.Shown.{ShowsLog}
use Rattle.fx_supers.specs.SessionLog.{SessionLog, HoldsLog, IsMade, IsReadFrom, KeepsLog, MayClose, MayPut, closed_session, epoch_of, finished_session, flushed_session, new_session, put_session, synced_session, tried_session, written_session}
use Rattle.fx_supers.proofs.LogHeld.{has-new, keeps-closed, keeps-elsewhere, keeps-tried, keeps-written, keeps-flush, keeps-flushed, keeps-put, keeps-unput, keeps-finished}
use Rattle.fx_supers.proofs.LogKept.{session-new, session-closed, session-written, session-flushed, session-put, session-finished}
use Rattle.fx_supers.proofs.LogShown.{shows-log, shows-still_super}

-- ---- the mount

module _ (size : ℕ) (r : DiskRecord) (is : IsRecordOf size (length r.calls) r) (head : LogHead) (slot : Which) (read : IsReadFrom head slot r) (blocks : head.super.blocks ≡ size) where
  -- what it began as is what it reads as
  reads-begun : (image : List (List ℕ)) → BeganAs r (length r.calls) image → r.contents ≡ image
  reads-begun image began = ext_get_or [] r.contents image (is.contents_size ∙ sym is.entry_size ∙ sym began.size)
      (λ b lt.
      let below : b < length r.entry = omega (arith, lt, is.contents_size, is.entry_size) in
      let loose : (cell_now r b).loose ≡ false = sym (ap (λ (c : Cell). c.loose) (cell_after-now r b)) ∙ began.settled b below in
      let fixed : IsFixed (cell_now r b) = fixed-after r b r.calls loose in
      is.reads b (omega (arith, lt, is.contents_size)) fixed.good ∙ sym (ap (λ (c : Cell). c.bytes) (cell_after-now r b)) ∙ sym (began.bytes b below))

  pub keeps-new : KeepsLog (new_session size (length r.calls) head slot) r
  keeps-new = record {
    size = is.entry_size;
    since = omega arith;
    has = λ image began.
        let same : r.contents ≡ image = reads-begun image began in
        let chosen : IsChosen image slot head.super = subst (λ (x : List (List ℕ)). IsChosen x slot head.super) same read.chosen in
        has-new size r slot head image (record {
          begins = began;
          chosen = (slot, chosen);
          blocks = blocks ∙ sym is.entry_size;
          stream = subst (λ (x : List (List ℕ)). IsStream x head.super.ring head.super.generation (start_of head.super) head.read head.place) same read.stream;
        }) chosen;
  }

pub log-mounted : (seen : DiskSeen) (head : LogHead) (slot : Which) → IfSome seen.told (IsRecordOf seen.size seen.calls) → IsHead seen.size head.super head.read head.place → length head.read ≤ head.super.ring
    → IfSome seen.told (IsReadFrom head slot) → HoldsLog (new_session seen.size seen.calls head slot) seen
log-mounted seen head slot told is fits read = record {
  log_is = session-new seen.size seen.calls head slot is fits;
  size = refl;
  told = told-both (IsRecordOf seen.size seen.calls) (IsReadFrom head slot) (KeepsLog (new_session seen.size seen.calls head slot)) seen.told
      (λ r of read. subst (λ (n : ℕ). KeepsLog (new_session seen.size n head slot) r) of.counted (keeps-new seen.size r (subst (λ (n : ℕ). IsRecordOf seen.size n r) (sym of.counted) of) head slot read is.blocks)) told read;
}

module _ (l : SessionLog) (before : DiskSeen) (h : HoldsLog l before) where
  -- further blocks are closed
  pub log-closes : (more : List Queued) (chain : ℕ) (text : List ℕ) → MayClose l more chain → HoldsLog (closed_session l more chain text) before
  log-closes more chain text may = record {
    log_is = session-closed l h.log_is more chain text may;
    size = h.size;
    told = told-map (KeepsLog l) (KeepsLog (closed_session l more chain text)) before.told (λ r k. keeps-closed l h.log_is r k more chain text) h.told;
  }

  module _ (after : DiskSeen) where
    -- a write of data or of a layer
    pub log-elsewhere : (at : ℕ) (bytes : List ℕ) (ok : Bool) → l.head.super.ring + 2 ≤ at → HasWritten before after at bytes ok → HoldsLog l after
    log-elsewhere at bytes ok past w = record {
      log_is = h.log_is;
      size = w.size ∙ h.size;
      told = told-write before.told after.told before.calls after.calls after.last_made ok (KeepsLog l) (KeepsLog l) at bytes w.made (λ r k. k)
          (λ r held may k. keeps-elsewhere l h.log_is r k at bytes ok held past) h.told;
    }

    -- the next block is written, good or failed
    pub log-writes : (q : Queued) (ok : Bool) → slice_get l.tail.blocks l.tail.written ≡ Some q → HasWritten before after (place_in l.head.super.ring q) (bytes_in (epoch_of l.head) q) ok → HoldsLog (tried_session ok l) after
    log-writes q true here w = record {
      log_is = session-written l h.log_is (slice_get_within l.tail.blocks l.tail.written q here);
      size = w.size ∙ h.size;
      told = elim w.made [
        | inl done ↦ by_told before.told done.done h.told
        | inr none ↦ absurd (cc none.failed)
      ];
    }
      where
        by_told : (told : Option DiskRecord) → Writes told after.told (place_in l.head.super.ring q) (bytes_in (epoch_of l.head) q) true → IfSome told (KeepsLog l) → IfSome after.told (KeepsLog (written_session l))
        by_told None e k = subst (λ (o : Option DiskRecord). IfSome o (KeepsLog (written_session l))) (sym e) tt
        by_told (Some r) e k = subst (λ (o : Option DiskRecord). IfSome o (KeepsLog (written_session l))) (sym e.2) (keeps-written l h.log_is r k q here e.0)
    log-writes q false here w = record {
      log_is = h.log_is;
      size = w.size ∙ h.size;
      told = told-write before.told after.told before.calls after.calls after.last_made false (KeepsLog l) (KeepsLog l) (place_in l.head.super.ring q) (bytes_in (epoch_of l.head) q) w.made (λ r k. k)
          (λ r held may k. keeps-tried l h.log_is r k q here false held) h.told;
    }

    -- a flush that settles nothing more, good or failed, and a flush by its answer
    pub log-stays : (ok : Bool) → HasFlushed before after ok → HoldsLog l after
    log-stays ok f = record {
      log_is = h.log_is;
      size = f.size ∙ h.size;
      told = told-flush before.told after.told before.calls after.calls after.last_made ok (KeepsLog l) (KeepsLog l) f.made (λ r k. k) (λ r k. keeps-flush l h.log_is r k ok) h.told;
    }

    -- a good flush
    good-flush : (m : SessionLog) → ((r : DiskRecord) → KeepsLog l r → KeepsLog m (with_flush r true)) → HasFlushed before after true → IfSome after.told (KeepsLog m)
    good-flush m step f = elim f.made [
      | inl done ↦ by_told before.told done.done h.told
      | inr none ↦ absurd (cc none.failed)
    ]
      where
        by_told : (told : Option DiskRecord) → Flushes told after.told true → IfSome told (KeepsLog l) → IfSome after.told (KeepsLog m)
        by_told None e k = subst (λ (o : Option DiskRecord). IfSome o (KeepsLog m)) (sym e) tt
        by_told (Some r) e k = subst (λ (o : Option DiskRecord). IfSome o (KeepsLog m)) (sym e) (step r k)

    pub log-flushes : (ok : Bool) → HasFlushed before after ok → HoldsLog (synced_session ok l) after
    log-flushes true f = record {
      log_is = session-flushed l h.log_is;
      size = f.size ∙ h.size;
      told = good-flush (flushed_session l) (λ r k. keeps-flushed l h.log_is r k) f;
    }
    log-flushes false f = log-stays false f

    -- a superblock is written, good or failed
    pub log-puts : (cut : SuperCut) (ok : Bool) → MayPut l cut → HasWritten before after (block_number (other l.supers.slot)) (super_block cut.super) ok → HoldsLog (put_session l cut ok) after
    log-puts cut ok may w = record {
      log_is = session-put l h.log_is cut ok may;
      size = w.size ∙ h.size;
      told = elim w.made [
        | inl done ↦ by_told before.told done.done h.told
        | inr none ↦ subst (λ (o : Option DiskRecord). IfSome o (KeepsLog (put_session l cut ok))) (sym none.same)
            (told-map (KeepsLog l) (KeepsLog (put_session l cut ok)) before.told (λ r k. subst (λ (t : Bool). KeepsLog (put_session l cut t) r) (sym none.failed) (keeps-unput l h.log_is r k cut may)) h.told)
      ];
    }
      where
        by_told : (told : Option DiskRecord) → Writes told after.told (block_number (other l.supers.slot)) (super_block cut.super) ok → IfSome told (KeepsLog l) → IfSome after.told (KeepsLog (put_session l cut ok))
        by_told None e k = subst (λ (o : Option DiskRecord). IfSome o (KeepsLog (put_session l cut ok))) (sym e) tt
        by_told (Some r) e k = subst (λ (o : Option DiskRecord). IfSome o (KeepsLog (put_session l cut ok))) (sym e.2) (keeps-put l h.log_is r k cut may ok e.0)

    -- and flushed
    pub log-finishes : (cut : SuperCut) → IsMade l cut → HasFlushed before after true → HoldsLog (finished_session l cut) after
    log-finishes cut made f = record {
      log_is = session-finished l h.log_is cut made;
      size = f.size ∙ h.size;
      told = good-flush (finished_session l cut) (λ r k. keeps-finished l h.log_is r k cut made) f;
    }

-- ---- images

pub log-shows : (l : SessionLog) (seen : DiskSeen) → HoldsLog l seen
    → IfSome seen.told (λ r. (first left : List (List ℕ)) → BeganAs r l.from first → LeftNow r left → NotByChance (cell_after r l.from) (cell_now r) l.head.super.generation left → ShowsLog l left)
log-shows l seen h = told-map (KeepsLog l) (λ r. (first left : List (List ℕ)) → BeganAs r l.from first → LeftNow r left → NotByChance (cell_after r l.from) (cell_now r) l.head.super.generation left → ShowsLog l left)
    seen.told (λ r k first left began is chance. shows-log l h.log_is first r (k.has first began) left is chance) h.told

-- where no superblock is coming every image has the current one, by chance or not
pub log-chooses : (l : SessionLog) (seen : DiskSeen) → HoldsLog l seen → l.supers.coming ≡ None
    → IfSome seen.told (λ r. (first left : List (List ℕ)) → BeganAs r l.from first → LeftNow r left → ChoosesSuper l.supers.current.super left)
log-chooses l seen h none = told-map (KeepsLog l) (λ r. (first left : List (List ℕ)) → BeganAs r l.from first → LeftNow r left → ChoosesSuper l.supers.current.super left)
    seen.told (λ r k first left began is. shows-still_super l.supers r (k.has first began).supers none left is) h.told
