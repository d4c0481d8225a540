-- What every image left now shows of a log.
use Rattle.std.proofs.Common.{◌≡◌, ℕ, ◌^◌, ◌≤◌, ◌<◌, inl, inr, Contains, List, [], refl, sym, subst, ap, arith}
use Rattle.std.specs.Prelude.{Option, Some, None}
use Rattle.fx_disk.specs.Record.{DiskRecord, LeftNow, candidates, cell_after, cell_now}
use Rattle.fx_super.specs.Super.{Fields, IsSuper}
use Rattle.fx_super.specs.Chosen.{block_number, block_of, other}
use Rattle.fx_disk.proofs.Cells.{image-candidate}
use Rattle.fx_jblock.specs.declared.Start.{Start}
use Rattle.fx_journal.specs.Ring.{Queued}
use Rattle.fx_log.specs.Chance.{NotByChance}
use Rattle.fx_log.specs.Chosen.{ChoosesSuper, start_of}
use Rattle.fx_supers.specs.Supers.{Origin, SuperCut, Supers, HasSupers, coming_fields}
use Rattle.fx_supers.specs.Cells.{HoldsRing}
use Rattle.fx_supers.specs.Shown.{HasTrueRun, ShowsCut, ShowsLog, ShowsRun}
use Rattle.fx_supers.specs.SessionLog.{SessionLog, AdmitsClosed, HasPlacesFrom, HasSession, IsCutOf, IsSessionLog, IsStartOf, epoch_of, first_in, live_first, read_in}
use Rattle.fx_supers.proofs.LogStarts.{later-first, places-later}
use Rattle.fx_supers.proofs.ShownFromBlock.{shows-block}
use Rattle.fx_supers.proofs.ShownFromMount.{shows-mount, shows-still}
use Rattle.fx_supers.proofs.SupersHeld.{place-low, super-image}

-- the one whose fields these are
coming-cut : (coming : Option SuperCut) (g : Fields) → coming_fields coming ≡ Some g → (cut : SuperCut) × (coming ≡ Some cut) × (cut.super ≡ g)
coming-cut None g e = absurd (cc)
coming-cut (Some cut) g e = (cut, refl, cc)

-- where none is coming, whatever is there by chance
pub shows-still_super : (s : Supers) (r : DiskRecord) → HasSupers s r → s.coming ≡ None → (image : List (List ℕ)) → LeftNow r image → ChoosesSuper s.current.super image
shows-still_super s r h none image left = (
  s.slot,
  record {
    is_super = subst (λ (x : List ℕ). IsSuper x s.current.super) (sym (left.kept (block_number s.slot) (let low = place-low s.slot in omega (arith, low, h.holds.slots)) h.holds.fixed)) h.holds.super;
    goes_before = λ g is.
        let b : ℕ = block_number (other s.slot) in
        let held : Contains (candidates (cell_now r b)) (block_of image (other s.slot)) =
        image-candidate r b image (let low = place-low (other s.slot) in omega (arith, low, h.holds.slots)) left (λ loose. (let fixed = h.still none in absurd (cc))) in
        elim (h.holds.others (block_of image (other s.slot)) g held is) [
          | inl before ↦ before
          | inr new ↦ (let e : coming_fields s.coming ≡ None = ap coming_fields none in absurd (cc))
        ];
  },
)

module _ (l : SessionLog) (is : IsSessionLog l) (first : List (List ℕ)) (r : DiskRecord) (has : HasSession l first r) (image : List (List ℕ)) (left : LeftNow r image)
    (chance : NotByChance (cell_after r l.from) (cell_now r) l.head.super.generation image) where
  abbrev R : ℕ
  R = l.head.super.ring

  true-run : (f : Fields) (ring : ℕ) → ChoosesSuper f image → f.ring ≡ ring → HasTrueRun (cell_after r l.from) (cell_now r) l.head.super.generation image ring f.generation (start_of f)
  true-run f ring chosen same = subst (λ (n : ℕ). HasTrueRun (cell_after r l.from) (cell_now r) l.head.super.generation image n f.generation (start_of f)) same
      (λ blocks at block run few stands. chance.stream f blocks at block chosen run few stands)

  -- a superblock that admits the closed blocks
  run-from : (from : Origin) (f : Fields) → ChoosesSuper f image → f.ring ≡ R → epoch_of l.head ≤ f.generation → IsStartOf l.head l.tail.blocks l.tail.chain from (start_of f) → HasPlacesFrom l.head l.tail.blocks from → live_first l ≤ first_in from
      → ShowsRun image R (epoch_of l.head) f.generation (start_of f) (read_in l.head from) l.tail.blocks (first_in from) l.tail.settled
  run-from None f chosen ring_is own begins places low =
      let fits : f.generation < 2 ^ 64 = omega (arith, chosen.1.is_super.rules.generation_most) in
      let none : live_first l ≡ 0 = omega (arith, low) in
      let ring : HoldsRing r l.from R (epoch_of l.head) l.tail.blocks 0 l.tail.written l.tail.settled = subst (λ (n : ℕ). HoldsRing r l.from R (epoch_of l.head) l.tail.blocks n l.tail.written l.tail.settled) none has.ring in
      subst (λ (s : Start). ShowsRun image R (epoch_of l.head) f.generation s l.head.read l.tail.blocks 0 l.tail.settled) (sym begins)
      (shows-mount r l.from l.head.super first l.head.read l.head.place has.began l.tail.blocks l.tail.chain is.closed l.tail.written l.tail.settled ring places image left f.generation own fits
      (subst (λ (s : Start). HasTrueRun (cell_after r l.from) (cell_now r) l.head.super.generation image R f.generation s) begins (true-run f R chosen ring_is)))
  run-from (Some n) f chosen ring_is own begins places low =
      let fits : f.generation < 2 ^ 64 = omega (arith, chosen.1.is_super.rules.generation_most) in
      shows-block r l.from R l.head.super.generation l.head.place l.tail.blocks l.tail.chain is.closed (live_first l) l.tail.written l.tail.settled has.ring
      (omega (arith, is.head.rules.ring_least)) (omega (arith, is.head.rules.blocks_least, has.began.blocks)) image left f.generation own fits
      n (start_of f) begins low places (true-run f R chosen ring_is)

  -- the superblock of the mount, before any block was closed
  run-untouched : (f : Fields) → l.tail.blocks ≡ [] → f.generation ≡ l.head.super.generation → start_of f ≡ start_of l.head.super
      → ShowsRun image R (epoch_of l.head) f.generation (start_of f) l.head.read l.tail.blocks 0 l.tail.settled
  run-untouched f none same begins =
      subst (λ (qs : List Queued). ShowsRun image R (epoch_of l.head) f.generation (start_of f) l.head.read qs 0 l.tail.settled) (sym none)
      (subst (λ (n : ℕ). ShowsRun image R (epoch_of l.head) n (start_of f) l.head.read [] 0 l.tail.settled) (sym same)
      (subst (λ (s : Start). ShowsRun image R (epoch_of l.head) l.head.super.generation s l.head.read [] 0 l.tail.settled) (sym begins)
      (shows-still r l.from l.head.super first l.head.read l.head.place has.began (epoch_of l.head) (live_first l) l.tail.written l.tail.settled
      (subst (λ (qs : List Queued). HoldsRing r l.from R (epoch_of l.head) qs (live_first l) l.tail.written l.tail.settled) none has.ring) image left)))

  run-either : (from : Origin) (f : Fields) → ChoosesSuper f image → f.ring ≡ R → AdmitsClosed l.head l.tail.blocks from f → IsStartOf l.head l.tail.blocks l.tail.chain from (start_of f) → HasPlacesFrom l.head l.tail.blocks from → live_first l ≤ first_in from
      → ShowsRun image R (epoch_of l.head) f.generation (start_of f) (read_in l.head from) l.tail.blocks (first_in from) l.tail.settled
  run-either None f chosen ring_is admits begins places low = elim admits [
    | inl own ↦ run-from None f chosen ring_is own begins places low
    | inr old ↦ run-untouched f old.0 (ap (λ (g : Fields). g.generation) old.1) begins
  ]
  run-either (Some n) f chosen ring_is admits begins places low = run-from (Some n) f chosen ring_is admits begins places low

  shows-cut : (cut : SuperCut) → IsCutOf l.head l.tail.blocks l.tail.chain cut → ChoosesSuper cut.super image → HasPlacesFrom l.head l.tail.blocks cut.origin → live_first l ≤ first_in cut.origin → ShowsCut l image cut
  shows-cut cut of chosen places low = record {
    chosen = chosen;
    run = subst (λ (n : ℕ). ShowsRun image n (epoch_of l.head) cut.super.generation (start_of cut.super) (read_in l.head cut.origin) l.tail.blocks (first_in cut.origin) l.tail.settled) (sym of.ring)
        (run-either cut.origin cut.super chosen of.ring of.admits of.begins places low);
  }

  -- It has one of the superblocks, and its stream is a cut of the closed blocks, with all that were settled.
  pub shows-log : ShowsLog l image
  shows-log = elim (super-image l.supers.slot l.supers.current.super (coming_fields l.supers.coming) r has.supers.holds image left chance.supers) [
    | inl old ↦ inl (shows-cut l.supers.current is.current old is.places (omega arith))
    | inr new ↦
        let named = coming-cut l.supers.coming new.0 new.1 in
        let of = is.coming named.0 named.1 in
        inr (
          named.0,
          named.1,
          shows-cut named.0 of.0 (subst (λ (g : Fields). ChoosesSuper g image) (sym named.2) new.2)
              (places-later l.head l.tail.blocks l.supers.current.origin named.0.origin of.1.later is.places) (later-first l.supers.current.origin named.0.origin of.1.later),
        )
  ]
