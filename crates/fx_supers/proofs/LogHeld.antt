-- What a disk has of a log, over the calls that are made of it.
use Rattle.std.proofs.Common.{◌≡◌, ◌⊎◌, ℕ, ◌+◌, ◌≤◌, ◌<◌, inl, inr, not, List, Bool, true, false, length, set, refl, sym, subst, ◌∙◌, ap, arith}
use Rattle.std.specs.Prelude.{Some, None, Option, slice_get, max}
use Rattle.std.proofs.lemmas.Option.{slice_get_within}
use Rattle.fx_disk.specs.Record.{Call, Write, Flush, DiskRecord, Cell, cell_after, cell_now}
use Rattle.fx_disk.specs.Began.{BeganAs}
use Rattle.fx_disk.specs.Settled.{IsGoodWrite}
use Rattle.fx_disk.specs.Steps.{with_call, with_write, with_flush}
use Rattle.fx_disk.proofs.Began.{cell_after-now, began_as-before}
use Rattle.fx_disk.proofs.Cells.{after-write, other-block}
use Rattle.fx_disk.proofs.Flushed.{flushed-bytes, flushed-fixed}
use Rattle.fx_disk.proofs.Left.{cell_now-with_call, length-with_call}
use Rattle.fx_super.specs.Super.{KeepsRules, super_block}
use Rattle.fx_super.specs.Chosen.{IsChosen, block_number, other}
use Rattle.fx_super.specs.declared.choice.Which.{Which}
use Rattle.fx_journal.specs.Ring.{Queued}
use Rattle.fx_log.specs.Log.{LogHead}
use Rattle.fx_log.specs.Ring.{BeganWith, place_in, bytes_in}
use Rattle.fx_log.proofs.RingBegan.{began_with-after}
use Rattle.fx_log.proofs.RingClosed.{rules-begun}
use Rattle.fx_log.proofs.SuperChoice.{other-twice}
use Rattle.fx_supers.specs.Supers.{Origin, SuperCut, Supers, HasSupers, coming_fields}
use Rattle.fx_supers.specs.SessionLog.{SessionLog, HasPlacesFrom, HasSession, IsMade, IsSessionLog, KeepsLog, MayPut, closed_session, epoch_of, finished_session, first_in, flushed_session, live_first, new_session, put_session, written_session}
use Rattle.fx_supers.proofs.CellMarks.{flushed-good, good-same}
use Rattle.fx_supers.proofs.LogStarts.{later-first}
use Rattle.fx_supers.proofs.RingHeld.{holds-begun, holds-closes, holds-rises, holds-elsewhere, holds-tries, holds-writes, holds-flush, holds-settles}
use Rattle.fx_supers.proofs.SupersHeld.{super-elsewhere, super-flush, super-put, super-finish, super-begun, super-expects, place-low}

-- ---- superblocks

-- none is coming, or this one is
one-fields : (coming : Option SuperCut) (cut : SuperCut) → (coming ≡ None) ⊎ (coming ≡ Some cut) → (coming_fields coming ≡ None) ⊎ (coming_fields coming ≡ Some cut.super)
one-fields coming cut one = elim one [ inl none ↦ inl (ap coming_fields none) | inr same ↦ inr (ap coming_fields same) ]

module _ (s : Supers) (r : DiskRecord) (h : HasSupers s r) where
  -- a write past the superblocks
  supers-elsewhere : (at : ℕ) (bytes : List ℕ) (ok : Bool) (contents : List (List ℕ)) → 2 ≤ at → HasSupers s (with_call r (Write at bytes ok) contents)
  supers-elsewhere at bytes ok contents past = record {
    holds = super-elsewhere s.slot s.current.super (coming_fields s.coming) r h.holds at bytes ok contents past;
    made = λ made cut is. good-same r (with_call r (Write at bytes ok) contents) (block_number (other s.slot)) (super_block cut.super)
        (other-block r (block_number (other s.slot)) at bytes ok contents (λ e. let low = place-low (other s.slot) in omega (arith, e, low, past))) (h.made made cut is);
    still = λ none. ap (λ (c : Cell). c.loose) (other-block r (block_number (other s.slot)) at bytes ok contents (λ e. let low = place-low (other s.slot) in omega (arith, e, low, past))) ∙ h.still none;
  }

  -- a flush
  supers-flush : (ok : Bool) (contents : List (List ℕ)) → HasSupers s (with_call r (Flush ok) contents)
  supers-flush ok contents = record {
    holds = super-flush s.slot s.current.super (coming_fields s.coming) r h.holds ok contents;
    made = λ made cut is.
        let b : ℕ = block_number (other s.slot) in
        let c = cell_now-with_call r (Flush ok) contents b in
        let g : IsGoodWrite b (super_block cut.super) r = h.made made cut is in
        record {
          good = ap (λ (c : Cell). c.failed) c ∙ flushed-good ok (cell_now r b) g.good;
          last = ap (λ (c : Cell). c.bytes) c ∙ flushed-bytes ok (cell_now r b) ∙ g.last;
        };
    still = λ none. ap (λ (c : Cell). c.loose) (cell_now-with_call r (Flush ok) contents (block_number (other s.slot))) ∙ flushed-fixed ok (cell_now r (block_number (other s.slot))) (h.still none);
  }

-- ---- the log

module _ (l : SessionLog) (is : IsSessionLog l) (first : List (List ℕ)) (r : DiskRecord) (has : HasSession l first r) where
  abbrev R : ℕ
  R = l.head.super.ring

  rules-first : KeepsRules l.head.super
  rules-first = is.head.rules

  filled : 1 ≤ R
  filled = omega (arith, rules-first.ring_least)

  began-after : (call : Call) (contents : List (List ℕ)) → BeganWith (with_call r call contents) l.from l.head.super first l.head.read l.head.place
  began-after call contents = began_with-after r call contents l.from has.ring.since l.head.super first l.head.read l.head.place has.began

  settles : (b : ℕ) → 2 ≤ b → b < R + 2 → (cell_after r l.from b).loose ≡ false
  settles b two lt = has.began.begins.settled b (omega (arith, lt, rules-first.blocks_least, has.began.blocks))

  -- further blocks are closed
  has-closed : (more : List Queued) (chain : ℕ) (text : List ℕ) → HasSession (closed_session l more chain text) first r
  has-closed more chain text = record {
    began = has.began;
    supers = has.supers;
    ring = holds-closes r l.from R (epoch_of l.head) l.tail.blocks more (live_first l) l.tail.written l.tail.settled has.ring;
  }

  -- a write of data or of a layer
  has-elsewhere : (at : ℕ) (bytes : List ℕ) (ok : Bool) (contents : List (List ℕ)) → R + 2 ≤ at → HasSession l first (with_call r (Write at bytes ok) contents)
  has-elsewhere at bytes ok contents past = record {
    began = began-after (Write at bytes ok) contents;
    supers = supers-elsewhere l.supers r has.supers at bytes ok contents (omega (arith, past));
    ring = holds-elsewhere r l.from R (epoch_of l.head) l.tail.blocks (live_first l) l.tail.written l.tail.settled has.ring filled at bytes ok contents (inr past);
  }

  room-now : (i : ℕ) → i < length l.tail.blocks → i < live_first l + R
  room-now i lt = by l.supers.current.origin is.places
    where
      by : (from : Origin) → HasPlacesFrom l.head l.tail.blocks from → i < first_in from + R
      by None p = omega (arith, p, lt)
      by (Some n) p = omega (arith, p, lt)

  -- the next block is written, good or failed
  module _ (q : Queued) (here : slice_get l.tail.blocks l.tail.written ≡ Some q) where
    has-tried : (ok : Bool) (contents : List (List ℕ)) → HasSession l first (with_call r (Write (place_in R q) (bytes_in (epoch_of l.head) q) ok) contents)
    has-tried ok contents = record {
      began = began-after (Write (place_in R q) (bytes_in (epoch_of l.head) q) ok) contents;
      supers = supers-elsewhere l.supers r has.supers (place_in R q) (bytes_in (epoch_of l.head) q) ok contents (omega arith);
      ring = holds-tries r l.from R (epoch_of l.head) l.head.place l.tail.blocks l.tail.chain is.closed (live_first l) l.tail.written l.tail.settled has.ring filled l.tail.written q here (omega arith) is.reached
          (room-now l.tail.written (slice_get_within l.tail.blocks l.tail.written q here)) ok contents;
    }

    has-written : (contents : List (List ℕ)) → HasSession (written_session l) first (with_call r (Write (place_in R q) (bytes_in (epoch_of l.head) q) true) contents)
    has-written contents = record {
      began = began-after (Write (place_in R q) (bytes_in (epoch_of l.head) q) true) contents;
      supers = (has-tried true contents).supers;
      ring = holds-writes r l.from R (epoch_of l.head) l.head.place l.tail.blocks l.tail.chain is.closed (live_first l) l.tail.written l.tail.settled has.ring filled l.tail.written q here (omega arith) is.reached
          (room-now l.tail.written (slice_get_within l.tail.blocks l.tail.written q here)) true contents refl refl;
    }

  -- a flush, good or failed, and a good one
  has-flush : (ok : Bool) (contents : List (List ℕ)) → HasSession l first (with_call r (Flush ok) contents)
  has-flush ok contents = record {
    began = began-after (Flush ok) contents;
    supers = supers-flush l.supers r has.supers ok contents;
    ring = holds-flush r contents l.from R (epoch_of l.head) l.tail.blocks (live_first l) l.tail.written l.tail.settled has.ring settles ok;
  }

  has-flushed : (contents : List (List ℕ)) → HasSession (flushed_session l) first (with_call r (Flush true) contents)
  has-flushed contents = record {
    began = began-after (Flush true) contents;
    supers = supers-flush l.supers r has.supers true contents;
    ring = holds-settles r contents l.from R (epoch_of l.head) l.tail.blocks (live_first l) l.tail.written l.tail.settled has.ring settles;
  }

  -- a superblock is written to the other block, good or failed
  module _ (cut : SuperCut) (may : MayPut l cut) where
    abbrev into : ℕ
    into = block_number (other l.supers.slot)

    one-coming : (coming_fields l.supers.coming ≡ None) ⊎ (coming_fields l.supers.coming ≡ Some cut.super)
    one-coming = one-fields l.supers.coming cut may.one

    has-put : (ok : Bool) (contents : List (List ℕ)) → HasSession (put_session l cut ok) first (with_call r (Write (block_number (other l.supers.slot)) (super_block cut.super) ok) contents)
    has-put ok contents = record {
      began = began-after (Write into (super_block cut.super) ok) contents;
      supers = record {
        holds = super-put l.supers.slot l.supers.current.super (coming_fields l.supers.coming) r has.supers.holds cut.super ok contents may.is.rules may.comes.newer one-coming;
        made = λ good coming e.
            let same : cut ≡ coming = cc in
            let c = after-write r into (super_block cut.super) ok contents in
            subst (λ (x : SuperCut). IsGoodWrite into (super_block x.super) (with_call r (Write into (super_block cut.super) ok) contents)) same
            (record { good = ap (λ (c : Cell). c.failed) c ∙ ap not good; last = ap (λ (c : Cell). c.bytes) c });
        still = λ none. absurd (cc);
      };
      ring = holds-elsewhere r l.from R (epoch_of l.head) l.tail.blocks (live_first l) l.tail.written l.tail.settled has.ring filled into (super_block cut.super) ok contents (inl (place-low (other l.supers.slot)));
    }

    -- the write was not made
    has-unput : HasSession (put_session l cut false) first r
    has-unput = record {
      began = has.began;
      supers = record {
        holds = super-expects l.supers.slot l.supers.current.super (coming_fields l.supers.coming) r cut.super has.supers.holds may.is.rules may.comes.newer one-coming;
        made = λ good. absurd (cc);
        still = λ none. absurd (cc);
      };
      ring = has.ring;
    }

  -- A good flush after a good write of it: the start is the new one, and the blocks before it are given up.
  has-finished : (cut : SuperCut) → IsMade l cut → (contents : List (List ℕ)) → HasSession (finished_session l cut) first (with_call r (Flush true) contents)
  has-finished cut made contents =
      let later = (is.coming cut made.coming).1.later in
      let within = (is.coming cut made.coming).0.within in
      record {
        began = began-after (Flush true) contents;
        supers = record {
          holds = super-finish l.supers.slot l.supers.current.super (coming_fields l.supers.coming) r has.supers.holds cut.super contents (ap coming_fields made.coming) (has.supers.made made.made cut made.coming);
          made = λ good. absurd (cc);
          still = λ none. subst (λ (w : Which). (cell_now (with_call r (Flush true) contents) (block_number w)).loose ≡ false) (sym (other-twice l.supers.slot)) (supers-flush l.supers r has.supers true contents).holds.fixed;
        };
        ring = holds-rises (with_call r (Flush true) contents) l.from R (epoch_of l.head) l.tail.blocks (live_first l) l.tail.written l.tail.written (first_in cut.origin) (max l.tail.written (first_in cut.origin)) (max l.tail.written (first_in cut.origin))
            (has-flushed contents).ring (later-first l.supers.current.origin cut.origin later) (omega arith) (omega (arith, is.most, within)) (λ i low lt. omega (arith, low, lt)) (λ i low lt. omega (arith, low, lt));
      }

-- ---- the mount, before its first call

pub has-new : (size : ℕ) (r : DiskRecord) (slot : Which) (head : LogHead) (first : List (List ℕ)) → BeganWith r (length r.calls) head.super first head.read head.place → IsChosen first slot head.super
    → HasSession (new_session size (length r.calls) head slot) first r
has-new size r slot head first began is =
    let rules : KeepsRules head.super = rules-begun r (length r.calls) head.super first head.read head.place began in
    let slots : 2 ≤ length r.entry = omega (arith, rules.blocks_least, began.blocks) in
    record {
      began = began;
      supers = record {
        holds = super-begun slot head.super r first slots is (λ b two. (
          sym (ap (λ (c : Cell). c.loose) (cell_after-now r b)) ∙ began.begins.settled b (omega (arith, two, slots)),
          began.begins.bytes b (omega (arith, two, slots)) ∙ ap (λ (c : Cell). c.bytes) (cell_after-now r b),
        ));
        made = λ good. absurd (cc);
        still = λ none. (let two : block_number (other slot) < 2 = place-low (other slot) in
            sym (ap (λ (c : Cell). c.loose) (cell_after-now r (block_number (other slot)))) ∙ began.begins.settled (block_number (other slot)) (omega (arith, two, slots)));
      };
      ring = holds-begun r head.super.ring (epoch_of head) (λ b two lt. sym (ap (λ (c : Cell). c.loose) (cell_after-now r b)) ∙ began.begins.settled b (omega (arith, lt, rules.blocks_least, began.blocks)));
    }

-- ---- whichever image the disk began as

module _ (l m : SessionLog) (r : DiskRecord) (size : m.size ≡ l.size) (from : m.from ≡ l.from) (h : KeepsLog l r) where
  -- what happens without a call
  pub keeps-still : ((first : List (List ℕ)) → HasSession l first r → HasSession m first r) → KeepsLog m r
  keeps-still step = record {
    size = h.size ∙ sym size;
    since = omega (arith, from, h.since);
    has = λ first began. step first (h.has first (subst (λ (n : ℕ). BeganAs r n first) from began));
  }

  -- and with one
  pub keeps-call : (call : Call) (contents : List (List ℕ)) → ((first : List (List ℕ)) → HasSession l first r → HasSession m first (with_call r call contents)) → KeepsLog m (with_call r call contents)
  keeps-call call contents step = record {
    size = h.size ∙ sym size;
    since = omega (arith, from, h.since, length-with_call r call contents);
    has = λ first began. step first (h.has first (began_as-before r call contents l.from h.since first (subst (λ (n : ℕ). BeganAs (with_call r call contents) n first) from began)));
  }

module _ (l : SessionLog) (is : IsSessionLog l) (r : DiskRecord) (h : KeepsLog l r) where
  pub keeps-closed : (more : List Queued) (chain : ℕ) (text : List ℕ) → KeepsLog (closed_session l more chain text) r
  keeps-closed more chain text = keeps-still l (closed_session l more chain text) r refl refl h (λ first g. has-closed l is first r g more chain text)

  pub keeps-elsewhere : (at : ℕ) (bytes : List ℕ) (ok : Bool) (held : List ℕ) → l.head.super.ring + 2 ≤ at → KeepsLog l (with_write r at bytes ok held)
  keeps-elsewhere at bytes ok held past = keeps-call l l r refl refl h (Write at bytes ok) (set r.contents at held) (λ first g. has-elsewhere l is first r g at bytes ok (set r.contents at held) past)

  pub keeps-tried : (q : Queued) → slice_get l.tail.blocks l.tail.written ≡ Some q → (ok : Bool) (held : List ℕ) → KeepsLog l (with_write r (place_in l.head.super.ring q) (bytes_in (epoch_of l.head) q) ok held)
  keeps-tried q here ok held = keeps-call l l r refl refl h (Write (place_in l.head.super.ring q) (bytes_in (epoch_of l.head) q) ok) (set r.contents (place_in l.head.super.ring q) held)
      (λ first g. has-tried l is first r g q here ok (set r.contents (place_in l.head.super.ring q) held))

  pub keeps-written : (q : Queued) → slice_get l.tail.blocks l.tail.written ≡ Some q → (held : List ℕ) → KeepsLog (written_session l) (with_write r (place_in l.head.super.ring q) (bytes_in (epoch_of l.head) q) true held)
  keeps-written q here held = keeps-call l (written_session l) r refl refl h (Write (place_in l.head.super.ring q) (bytes_in (epoch_of l.head) q) true) (set r.contents (place_in l.head.super.ring q) held)
      (λ first g. has-written l is first r g q here (set r.contents (place_in l.head.super.ring q) held))

  pub keeps-flush : (ok : Bool) → KeepsLog l (with_flush r ok)
  keeps-flush ok = keeps-call l l r refl refl h (Flush ok) r.contents (λ first g. has-flush l is first r g ok r.contents)

  pub keeps-flushed : KeepsLog (flushed_session l) (with_flush r true)
  keeps-flushed = keeps-call l (flushed_session l) r refl refl h (Flush true) r.contents (λ first g. has-flushed l is first r g r.contents)

  pub keeps-put : (cut : SuperCut) → MayPut l cut → (ok : Bool) (held : List ℕ) → KeepsLog (put_session l cut ok) (with_write r (block_number (other l.supers.slot)) (super_block cut.super) ok held)
  keeps-put cut may ok held = keeps-call l (put_session l cut ok) r refl refl h (Write (block_number (other l.supers.slot)) (super_block cut.super) ok) (set r.contents (block_number (other l.supers.slot)) held)
      (λ first g. has-put l is first r g cut may ok (set r.contents (block_number (other l.supers.slot)) held))

  pub keeps-unput : (cut : SuperCut) → MayPut l cut → KeepsLog (put_session l cut false) r
  keeps-unput cut may = keeps-still l (put_session l cut false) r refl refl h (λ first g. has-unput l is first r g cut may)

  pub keeps-finished : (cut : SuperCut) → IsMade l cut → KeepsLog (finished_session l cut) (with_flush r true)
  keeps-finished cut made = keeps-call l (finished_session l cut) r refl refl h (Flush true) r.contents (λ first g. has-finished l is first r g cut made r.contents)
