-- What stands in a ring whose places are used again, over the calls of a session.
use Rattle.std.proofs.Common.{◌≡◌, ℕ, ◌+◌, ◌≤◌, ◌<◌, ◌⊎◌, inl, inr, not, List, [], ◌∷◌, ◌++◌, Bool, true, false, length, drop, take, refl, sym, subst, ◌∙◌, ap, arith, Contains, length-drop}
use Rattle.std.specs.Prelude.{Some, slice_get}
use Rattle.std.proofs.lemmas.Bool.Decides.{eqb_tells}
use Rattle.std.proofs.lemmas.List.Elements.{Contains-append_cases}
use Rattle.std.proofs.lemmas.List.{length-append}
use Rattle.std.proofs.lemmas.Option.{same_Some, slice_get_within}
use Rattle.fx_disk.specs.Record.{Call, Write, Flush, DiskRecord, Cell, candidates, cell_after, cell_now, written_cell, flushed_cell}
use Rattle.fx_disk.specs.Settled.{IsGoodWrite}
use Rattle.fx_disk.specs.Steps.{with_call}
use Rattle.fx_disk.proofs.Left.{cell_now-with_call, cell_after-with_call, length-with_call}
use Rattle.fx_disk.proofs.Cells.{IsFixed, one-is, fixed-after, candidates-flush, candidates-fixed, after-write, other-block, after-good_flush}
use Rattle.fx_jblock.specs.declared.Start.{Start}
use Rattle.fx_journal.specs.Ring.{Queued}
use Rattle.fx_log.specs.Ring.{place_in, bytes_in}
use Rattle.fx_disk.proofs.Flushed.{flushed-bytes, flushed-fixed}
use Rattle.fx_disk.proofs.Began.{cell_after-now}
use Rattle.fx_log.proofs.RingPlaces.{get-more, get-first}
use Rattle.fx_supers.proofs.CellMarks.{flushed-again, flushed-written, flushed-good, dropped-push, good-same}
use Rattle.fx_supers.specs.Cells.{AreClosedBlocks, IsBlockFor, IsTriedBy, HoldsRing}
use Rattle.fx_supers.proofs.ClosedBlocks.{made-apart}

-- ---- one block of the disk

-- more blocks were closed
made-more : (ring epoch : ℕ) (blocks more : List Queued) (b : ℕ) (value : List ℕ) → IsBlockFor ring epoch blocks b value → IsBlockFor ring epoch (blocks ++ more) b value
made-more ring epoch blocks more b value m = record { index = m.index; block = m.block; here = get-more blocks more m.index m.block m.here; place = m.place; bytes = m.bytes }

tried-more : (ring epoch : ℕ) (blocks more : List Queued) (b : ℕ) (before now : Cell) → IsTriedBy ring epoch blocks b before now → IsTriedBy ring epoch (blocks ++ more) b before now
tried-more ring epoch blocks more b before now t = record {
  held = λ value held. elim (t.held value held) [ inl old ↦ inl old | inr made ↦ inr (made-more ring epoch blocks more b value made) ];
  since = λ value held. made-more ring epoch blocks more b value (t.since value held);
}

-- a write of one of the blocks that belong there
tried-own : (ring epoch : ℕ) (blocks : List Queued) (b : ℕ) (before now : Cell) (bytes : List ℕ) (ok : Bool) → IsBlockFor ring epoch blocks b bytes → IsTriedBy ring epoch blocks b before now → IsTriedBy ring epoch blocks b before (written_cell bytes ok now)
tried-own ring epoch blocks b before now bytes ok own t = record {
  held = λ value held. elim (Contains-append_cases (candidates now) (bytes ∷ []) value held) [
    | inl old ↦ t.held value old
    | inr new ↦ inr (subst (IsBlockFor ring epoch blocks b) (one-is bytes value new) own)
  ];
  since = λ value held. elim (dropped-push (length before.written) now.written bytes value held) [
    | inl old ↦ t.since value old
    | inr new ↦ subst (IsBlockFor ring epoch blocks b) new own
  ];
}

-- a block that is not loose was not tried yet
tried-none : (r : DiskRecord) (ring epoch : ℕ) (blocks : List Queued) (b : ℕ) → (cell_now r b).loose ≡ false → IsTriedBy ring epoch blocks b (cell_now r b) (cell_now r b)
tried-none r ring epoch blocks b fixed = record {
  held = λ value held. inl (sym (one-is (cell_now r b).bytes value (subst (λ (xs : List (List ℕ)). Contains xs value) (candidates-fixed r b fixed) held)));
  since = λ value held. absurd (omega (arith, held.1, length-drop (length (cell_now r b).written) (cell_now r b).written));
}

-- ---- the ring

-- the mount: nothing is loose, and nothing was closed
pub holds-begun : (r : DiskRecord) (ring epoch : ℕ) → ((b : ℕ) → 2 ≤ b → b < ring + 2 → (cell_now r b).loose ≡ false) → HoldsRing r (length r.calls) ring epoch [] 0 0 0
holds-begun r ring epoch fixed = record {
  since = omega arith;
  fewer = omega arith;
  most = omega arith;
  others = λ b two lt away. sym (cell_after-now r b);
  tried = λ b two lt. subst (λ (c : Cell). IsTriedBy ring epoch [] b c (cell_now r b)) (sym (cell_after-now r b)) (tried-none r ring epoch [] b (fixed b two lt));
  good = λ i q e low lt. absurd (cc);
  fixed = λ i q e low lt. absurd (cc);
}

-- more blocks are closed
pub holds-closes : (r : DiskRecord) (from ring epoch : ℕ) (blocks more : List Queued) (live written settled : ℕ) → HoldsRing r from ring epoch blocks live written settled → HoldsRing r from ring epoch (blocks ++ more) live written settled
holds-closes r from ring epoch blocks more live written settled h = record {
  since = h.since;
  fewer = h.fewer;
  most = omega (arith, h.most, length-append blocks more);
  others = λ b two lt away. h.others b two lt (λ i q e. away i q (get-more blocks more i q e));
  tried = λ b two lt. tried-more ring epoch blocks more b (cell_after r from b) (cell_now r b) (h.tried b two lt);
  good = λ i q e low lt. h.good i q (get-first blocks more i q (omega (arith, h.most)) e) low lt;
  fixed = λ i q e low lt. h.fixed i q (get-first blocks more i q (omega (arith, h.most, h.fewer)) e) low lt;
}

-- The start rises: blocks before it are given up, those too that were not written.
pub holds-rises : (r : DiskRecord) (from ring epoch : ℕ) (blocks : List Queued) (live written settled later upto fixed : ℕ) → HoldsRing r from ring epoch blocks live written settled
    → live ≤ later → fixed ≤ upto → upto ≤ length blocks → ((i : ℕ) → later ≤ i → i < upto → i < written) → ((i : ℕ) → later ≤ i → i < fixed → i < settled) → HoldsRing r from ring epoch blocks later upto fixed
holds-rises r from ring epoch blocks live written settled later upto fixed h le fewer most was_written was_settled = record {
  since = h.since;
  fewer = fewer;
  most = most;
  others = h.others;
  tried = h.tried;
  good = λ i q e low lt. h.good i q e (omega (arith, le, low)) (was_written i low lt);
  fixed = λ i q e low lt. h.fixed i q e (omega (arith, le, low)) (was_settled i low lt);
}

module _ (r : DiskRecord) (call : Call) (contents : List (List ℕ)) (from ring epoch : ℕ) (blocks : List Queued) (live written settled : ℕ) (h : HoldsRing r from ring epoch blocks live written settled) where
  before-same : (b : ℕ) → cell_after (with_call r call contents) from b ≡ cell_after r from b
  before-same b = cell_after-with_call r call contents from b h.since

  still-since : from ≤ length (with_call r call contents).calls
  still-since = omega (arith, h.since, length-with_call r call contents)

  tried-same : (b : ℕ) → IsTriedBy ring epoch blocks b (cell_after r from b) (cell_now (with_call r call contents) b) → IsTriedBy ring epoch blocks b (cell_after (with_call r call contents) from b) (cell_now (with_call r call contents) b)
  tried-same b t = subst (λ (c : Cell). IsTriedBy ring epoch blocks b c (cell_now (with_call r call contents) b)) (sym (before-same b)) t

  -- a call that changes no block of the ring
  pub holds-same : 1 ≤ ring → ((b : ℕ) → 2 ≤ b → b < ring + 2 → cell_now (with_call r call contents) b ≡ cell_now r b) → HoldsRing (with_call r call contents) from ring epoch blocks live written settled
  holds-same filled same =
      let still : (q : Queued) → cell_now (with_call r call contents) (place_in ring q) ≡ cell_now r (place_in ring q) = λ q. same (place_in ring q) (omega arith) (omega (arith, filled)) in
      record {
        since = still-since;
        fewer = h.fewer;
        most = h.most;
        others = λ b two lt away. same b two lt ∙ h.others b two lt away ∙ sym (before-same b);
        tried = λ b two lt. tried-same b (subst (λ (c : Cell). IsTriedBy ring epoch blocks b (cell_after r from b) c) (sym (same b two lt)) (h.tried b two lt));
        good = λ i q e low lt. good-same r (with_call r call contents) (place_in ring q) (bytes_in epoch q) (still q) (h.good i q e low lt);
        fixed = λ i q e low lt. ap (λ (c : Cell). c.loose) (still q) ∙ h.fixed i q e low lt;
      }

-- a write of another block: of a superblock, of data or of a layer
pub holds-elsewhere : (r : DiskRecord) (from ring epoch : ℕ) (blocks : List Queued) (live written settled : ℕ) → HoldsRing r from ring epoch blocks live written settled → 1 ≤ ring
    → (at : ℕ) (bytes : List ℕ) (ok : Bool) (contents : List (List ℕ)) → (at < 2) ⊎ (ring + 2 ≤ at) → HoldsRing (with_call r (Write at bytes ok) contents) from ring epoch blocks live written settled
holds-elsewhere r from ring epoch blocks live written settled h filled at bytes ok contents away = holds-same r (Write at bytes ok) contents from ring epoch blocks live written settled h filled
    (λ b two lt. other-block r b at bytes ok contents (λ e. elim away [ inl low ↦ absurd (omega (arith, e, low, two)) | inr high ↦ absurd (omega (arith, e, high, lt)) ]))

-- A write of a closed block that was not written yet, in the place of one that was given up or in a free place.
module _ (r : DiskRecord) (from ring epoch : ℕ) (place : Start) (blocks : List Queued) (chain : ℕ) (made : AreClosedBlocks ring epoch place blocks chain)
    (live written settled : ℕ) (h : HoldsRing r from ring epoch blocks live written settled) (filled : 1 ≤ ring)
    (i : ℕ) (q : Queued) (here : slice_get blocks i ≡ Some q) (later : written ≤ i) (low : live ≤ i) (room : i < live + ring) (ok : Bool) (contents : List (List ℕ)) where
  abbrev call : Call
  call = Write (place_in ring q) (bytes_in epoch q) ok

  abbrev s : DiskRecord
  s = with_call r call contents

  -- the other live blocks stay
  other-stays : (k : ℕ) (p : Queued) → slice_get blocks k ≡ Some p → live ≤ k → k < i → cell_now s (place_in ring p) ≡ cell_now r (place_in ring p)
  other-stays k p there low' lt = other-block r (place_in ring p) (place_in ring q) (bytes_in epoch q) ok contents
      (λ same. (let e : i ≡ k = made-apart ring epoch place blocks chain made live i k q p here there same low low' room (omega (arith, lt, room)) in absurd (omega (arith, e, lt))))

  own : IsBlockFor ring epoch blocks (place_in ring q) (bytes_in epoch q)
  own = record { index = i; block = q; here = here; place = refl; bytes = refl }

  tried-after : (b : ℕ) → 2 ≤ b → b < ring + 2 → IsTriedBy ring epoch blocks b (cell_after r from b) (cell_now s b)
  tried-after b two lt = elim (eqb_tells (place_in ring q) b) [
    | inl y ↦ subst (λ (n : ℕ). IsTriedBy ring epoch blocks n (cell_after r from n) (cell_now s n)) y.1
        (subst (λ (c : Cell). IsTriedBy ring epoch blocks (place_in ring q) (cell_after r from (place_in ring q)) c) (sym (after-write r (place_in ring q) (bytes_in epoch q) ok contents))
        (tried-own ring epoch blocks (place_in ring q) (cell_after r from (place_in ring q)) (cell_now r (place_in ring q)) (bytes_in epoch q) ok own (h.tried (place_in ring q) (omega arith) (omega (arith, filled)))))
    | inr n ↦ subst (λ (c : Cell). IsTriedBy ring epoch blocks b (cell_after r from b) c) (sym (other-block r b (place_in ring q) (bytes_in epoch q) ok contents n.1)) (h.tried b two lt)
  ]

  -- the write was tried
  pub holds-tries : HoldsRing s from ring epoch blocks live written settled
  holds-tries = record {
    since = still-since r call contents from ring epoch blocks live written settled h;
    fewer = h.fewer;
    most = h.most;
    others = λ b two lt away. other-block r b (place_in ring q) (bytes_in epoch q) ok contents (away i q here) ∙ h.others b two lt away ∙ sym (before-same r call contents from ring epoch blocks live written settled h b);
    tried = λ b two lt. tried-same r call contents from ring epoch blocks live written settled h b (tried-after b two lt);
    good = λ k p there low' lt. good-same r s (place_in ring p) (bytes_in epoch p) (other-stays k p there low' (omega (arith, lt, later))) (h.good k p there low' lt);
    fixed = λ k p there low' lt. ap (λ (c : Cell). c.loose) (other-stays k p there low' (omega (arith, lt, later, h.fewer))) ∙ h.fixed k p there low' lt;
  }

  good-here : ok ≡ true → IsGoodWrite (place_in ring q) (bytes_in epoch q) s
  good-here good =
      let c : cell_now s (place_in ring q) ≡ written_cell (bytes_in epoch q) ok (cell_now r (place_in ring q)) = after-write r (place_in ring q) (bytes_in epoch q) ok contents in
      record { good = ap (λ (c : Cell). c.failed) c ∙ ap not good; last = ap (λ (c : Cell). c.bytes) c }

  -- it was the next one, and the write was good
  pub holds-writes : i ≡ written → ok ≡ true → HoldsRing s from ring epoch blocks live (written + 1) settled
  holds-writes first good = record {
    since = holds-tries.since;
    fewer = omega (arith, h.fewer);
    most = omega (arith, first, slice_get_within blocks i q here);
    others = holds-tries.others;
    tried = holds-tries.tried;
    good = λ k p there low' lt. elim (eqb_tells i k) [
      | inl y ↦ subst (λ (x : Queued). IsGoodWrite (place_in ring x) (bytes_in epoch x) s) (same_Some q p (sym here ∙ ap (λ (n : ℕ). slice_get blocks n) y.1 ∙ there)) (good-here good)
      | inr n ↦ holds-tries.good k p there low' (omega (arith, n.1, lt, first))
    ];
    fixed = holds-tries.fixed;
  }

-- A flush, good or failed.
module _ (r : DiskRecord) (contents : List (List ℕ)) (from ring epoch : ℕ) (blocks : List Queued) (live written settled : ℕ) (h : HoldsRing r from ring epoch blocks live written settled)
    (settles : (b : ℕ) → 2 ≤ b → b < ring + 2 → (cell_after r from b).loose ≡ false) where
  pub holds-flush : (ok : Bool) → HoldsRing (with_call r (Flush ok) contents) from ring epoch blocks live written settled
  holds-flush ok = record {
    since = still-since r (Flush ok) contents from ring epoch blocks live written settled h;
    fewer = h.fewer;
    most = h.most;
    others = λ b two lt away.
        let fixed : IsFixed (cell_after r from b) = fixed-after r b (take from r.calls) (settles b two lt) in
        cell_now-with_call r (Flush ok) contents b ∙ ap (flushed_cell ok) (h.others b two lt away) ∙ flushed-again ok (cell_after r from b) fixed (settles b two lt)
        ∙ sym (before-same r (Flush ok) contents from ring epoch blocks live written settled h b);
    tried = λ b two lt.
        let t : IsTriedBy ring epoch blocks b (cell_after r from b) (cell_now r b) = h.tried b two lt in
        tried-same r (Flush ok) contents from ring epoch blocks live written settled h b (record {
          held = λ value held. t.held value (candidates-flush r b ok contents value held);
          since = λ value held.
              let same : (cell_now (with_call r (Flush ok) contents) b).written ≡ (cell_now r b).written = ap (λ (c : Cell). c.written) (cell_now-with_call r (Flush ok) contents b) ∙ flushed-written ok (cell_now r b) in
              t.since value (subst (λ (xs : List (List ℕ)). Contains (drop (length (cell_after r from b).written) xs) value) same held);
        });
    good = λ i q e low lt.
        let c : cell_now (with_call r (Flush ok) contents) (place_in ring q) ≡ flushed_cell ok (cell_now r (place_in ring q)) = cell_now-with_call r (Flush ok) contents (place_in ring q) in
        let g : IsGoodWrite (place_in ring q) (bytes_in epoch q) r = h.good i q e low lt in
        record {
          good = ap (λ (c : Cell). c.failed) c ∙ flushed-good ok (cell_now r (place_in ring q)) g.good;
          last = ap (λ (c : Cell). c.bytes) c ∙ flushed-bytes ok (cell_now r (place_in ring q)) ∙ g.last;
        };
    fixed = λ i q e low lt. ap (λ (c : Cell). c.loose) (cell_now-with_call r (Flush ok) contents (place_in ring q)) ∙ flushed-fixed ok (cell_now r (place_in ring q)) (h.fixed i q e low lt);
  }

  -- a good one settles all that were written
  pub holds-settles : HoldsRing (with_call r (Flush true) contents) from ring epoch blocks live written written
  holds-settles =
      let kept : HoldsRing (with_call r (Flush true) contents) from ring epoch blocks live written settled = holds-flush true in
      record {
        since = kept.since;
        fewer = omega arith;
        most = kept.most;
        others = kept.others;
        tried = kept.tried;
        good = kept.good;
        fixed = λ i q e low lt. ap (λ (c : Cell). c.loose) (after-good_flush r (place_in ring q) contents (h.good i q e low lt).good);
      }
