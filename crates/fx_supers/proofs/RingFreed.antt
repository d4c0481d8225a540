-- The ring in memory when a superblock that came is the current one.
use Rattle.std.proofs.Common.{◌≡◌, ℕ, zero, suc, ◌+◌, ◌-◌, ◌≤◌, ◌⊎◌, inl, inr, List, [], ◌∷◌, length, drop, refl, subst, ap, arith, length-drop}
use Rattle.std.specs.Prelude.{Some, None, max}
use Rattle.fx_jblock.specs.declared.Start.{Start}
use Rattle.fx_journal.specs.Ring.{RingState, Queued, HoldsQueue, freed, freed_queued, without_before, next_start}
use Rattle.fx_pool.specs.Region.{Region}
use Rattle.fx_log.specs.Chosen.{start_of}
use Rattle.fx_log.specs.Log.{LogHead}
use Rattle.fx_supers.specs.InMemory.{IsRingFor}
use Rattle.fx_supers.specs.Supers.{Origin, SuperCut}
use Rattle.fx_supers.specs.SessionLog.{SessionLog, IsMade, IsNoEarlier, IsSessionLog, IsStartOf, finished_session, first_in, read_in}
use Rattle.fx_supers.proofs.LogStarts.{begins-now, later-first}
use Rattle.fx_supers.proofs.RingInMemory.{next-is, place-is}

drop-drop : {X : Type 0} → (m n k : ℕ) (xs : List X) → k ≡ m + n → drop n (drop m xs) ≡ drop k xs
drop-drop zero n k xs e = let same : n ≡ k = omega (arith, e) in ap (λ (i : ℕ). drop i xs) same
drop-drop (suc m) n zero xs e = absurd (omega (arith, e))
drop-drop (suc m) zero (suc k) [] e = refl
drop-drop (suc m) (suc n) (suc k) [] e = refl
drop-drop (suc m) n (suc k) (x ∷ xs) e = drop-drop m n k xs (omega (arith, e))

-- how far the start goes on
start-goes : (head : LogHead) (blocks : List Queued) (chain : ℕ) (from to : Origin) (one two : Start) → IsNoEarlier from to → IsStartOf head blocks chain from one → IsStartOf head blocks chain to two → head.place.sequence ≡ head.super.sequence + length head.read
    → one.sequence + (first_in to + length (read_in head from)) ≡ two.sequence + (first_in from + length (read_in head to))
start-goes head blocks chain None None one two le a b at = omega (arith, ap (λ (s : Start). s.sequence) a, ap (λ (s : Start). s.sequence) b)
start-goes head blocks chain None (Some n) one two le a b at = omega (arith, ap (λ (s : Start). s.sequence) a, b.sequence, at)
start-goes head blocks chain (Some n) None one two le a b at = absurd le
start-goes head blocks chain (Some n) (Some m) one two le a b at = omega (arith, a.sequence, b.sequence)

reads-less : (head : LogHead) (from to : Origin) → IsNoEarlier from to → length (read_in head to) ≤ length (read_in head from)
reads-less head None None le = omega arith
reads-less head None (Some n) le = omega arith
reads-less head (Some n) None le = absurd le
reads-less head (Some n) (Some m) le = omega arith

origin-kind : (head : LogHead) (from : Origin) → (first_in from ≡ 0) ⊎ (length (read_in head from) ≡ 0)
origin-kind head None = inl refl
origin-kind head (Some n) = inr refl

module _ (l : SessionLog) (h : IsSessionLog l) (ring : RingState) (region : Region) (of : IsRingFor l ring region) where
  -- where a checkpoint may begin, with nothing unfinished
  pub start-now : IsStartOf l.head l.tail.blocks l.tail.chain (Some (length l.tail.blocks)) (next_start ring)
  start-now = begins-now l.head l.tail.blocks l.tail.chain (next_start ring) (omega (arith, next-is l h ring region of, h.closed.low)) of.chain of.epoch

  module _ (cut : SuperCut) (made : IsMade l cut) (pool : Region)
      (queue : (qs : List Queued) → HoldsQueue ring region qs → HoldsQueue (without_before ring cut.super.sequence) pool (drop (freed_queued ring cut.super.sequence) qs)) where
    goes : l.supers.current.super.sequence + (first_in cut.origin + length (read_in l.head l.supers.current.origin)) ≡ cut.super.sequence + (first_in l.supers.current.origin + length (read_in l.head cut.origin))
    goes = start-goes l.head l.tail.blocks l.tail.chain l.supers.current.origin cut.origin (start_of l.supers.current.super) (start_of cut.super) (h.coming cut made.coming).1.later h.current.begins (h.coming cut made.coming).0.begins (place-is l h ring region of)

    less-read : length (read_in l.head cut.origin) ≤ length (read_in l.head l.supers.current.origin)
    less-read = reads-less l.head l.supers.current.origin cut.origin (h.coming cut made.coming).1.later

    less-first : first_in l.supers.current.origin ≤ first_in cut.origin
    less-first = later-first l.supers.current.origin cut.origin (h.coming cut made.coming).1.later

    -- so many blocks of the ring are given up
    freed-is : freed ring cut.super.sequence + (first_in l.supers.current.origin + length (read_in l.head cut.origin)) ≡ first_in cut.origin + length (read_in l.head l.supers.current.origin)
    freed-is = omega (arith, goes, of.sequence, less-read, less-first)

    waits : length (drop l.tail.written l.tail.blocks) ≡ ring.queued
    waits = of.queue.count

    -- and so many of those that wait
    queued-is : freed_queued ring cut.super.sequence ≡ first_in cut.origin - l.tail.written
    queued-is = elim (origin-kind l.head cut.origin) [
      | inl none ↦ omega (arith, none, freed-is, of.closed, waits, length-drop l.tail.written l.tail.blocks, h.most, (h.coming cut made.coming).0.within)
      | inr none ↦ omega (arith, none, freed-is, of.closed, waits, length-drop l.tail.written l.tail.blocks, h.most, (h.coming cut made.coming).0.within)
    ]

    pub ring-freed : IsRingFor (finished_session l cut) (without_before ring cut.super.sequence) pool
    ring-freed = record {
      sequence = refl;
      size = of.size;
      epoch = of.epoch;
      closed = omega (arith, freed-is, of.closed, (h.coming cut made.coming).0.within);
      chain = of.chain;
      text = of.text;
      queue = subst (λ (qs : List Queued). HoldsQueue (without_before ring cut.super.sequence) pool qs)
          (drop-drop l.tail.written (freed_queued ring cut.super.sequence) (max l.tail.written (first_in cut.origin)) l.tail.blocks (omega (arith, queued-is)))
          (queue (drop l.tail.written l.tail.blocks) of.queue);
    }
