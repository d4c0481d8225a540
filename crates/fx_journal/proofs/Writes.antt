-- The first block of the queue, and its write.
use Rattle.std.proofs.Common.{◌≡◌, ℕ, suc, zero, ◌+◌, ◌-◌, ◌<◌, ◌≤◌, Bool, true, false, List, [], ◌∷◌, ◌++◌, length, drop, Option, Some, None, refl, sym, ◌∙◌, subst, ap, arith}
use Rattle.std.specs.Prelude.{nat_lt, ◌&&◌, if◌then◌else◌}
use Rattle.std.proofs.lemmas.List.{length-drop}
use Rattle.fx_disk.specs.Seen.{DiskSeen, HasWritten}
use Rattle.fx_pool.specs.Region.{Region, Run, bytes_of}
use Rattle.fx_journal.specs.Ring.{RingState, Queued, IsRing, HoldsQueue, AreHeld, run_at, next_block, without_first}
use Rattle.fx_journal.specs.Writing.{first_bytes}

some-waits : (n x s : ℕ) (low : Bool) → (if nat_lt 0 n && low then Some x else None) ≡ Some s → 0 < n
some-waits zero x s low e = cc
some-waits (suc n) x s low e = omega arith

pub next-waits : (ring : RingState) (before s : ℕ) → next_block ring before ≡ Some s → 0 < ring.queued
next-waits ring before s e = some-waits ring.queued _ s _ e

held-first : (p : Region) (epoch : ℕ) (runs : List Run) (queue : List Queued) → 0 < length queue → AreHeld p epoch runs queue → bytes_of p (run_at runs 0) ≡ first_bytes epoch queue
held-first p epoch runs [] some h = absurd (omega arith)
held-first p epoch [] (q ∷ qs) some h = absurd h
held-first p epoch (run ∷ runs) (q ∷ qs) some h = h.0.bytes

pub first-written : (ring : RingState) (p : Region) (before s : ℕ) (queue : List Queued) → next_block ring before ≡ Some s → HoldsQueue ring p queue → bytes_of p (run_at ring.buffers 0) ≡ first_bytes ring.epoch queue
first-written ring p before s queue e h = held-first p ring.epoch ring.buffers queue (omega (arith, h.count, next-waits ring before s e)) h.held

pub written-as : (before after : DiskSeen) (ok : Bool) (at place : ℕ) (bytes block : List ℕ) → at ≡ place → bytes ≡ block → HasWritten before after at bytes ok → HasWritten before after place block ok
written-as before after ok at place bytes block e f h =
    subst (λ (b : List ℕ). HasWritten before after place b ok) f
    (subst (λ (a : ℕ). HasWritten before after a bytes ok) e h)

pub ring-without_first : (ring : RingState) → IsRing ring → 0 < ring.queued → IsRing (without_first ring)
ring-without_first ring h some = record {
  least = h.least;
  most = h.most;
  epoch_begun = h.epoch_begun;
  unfinished_room = h.unfinished_room;
  own_places = h.own_places;
  waiting = omega (arith, h.waiting);
  buffers_len = omega (arith, h.buffers_len, length-drop 1 ring.buffers, some);
}
