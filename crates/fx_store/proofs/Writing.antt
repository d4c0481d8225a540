-- The write of a block that waits, by its answer.
use Rattle.std.proofs.Common.{◌≡◌, ℕ, zero, suc, ◌+◌, ◌-◌, ◌<◌, ◌≤◌, Bool, true, false, List, [], ◌∷◌, refl, sym, ap, subst, ◌∙◌, arith}
use Rattle.std.specs.Prelude.{Option, None, Some, Result, Ok, Err, nat_lt, ◌&&◌, if◌then◌else◌}
use Rattle.fx_disk.specs.Seen.{DiskSeen, HasFailedLast, HasWritten}
use Rattle.fx_disk.proofs.Frames.{one_call_more, write_failed_last}
use Rattle.fx_disk.proofs.Made.{made-counts}
use Rattle.fx_pool.specs.Region.{Region}
use Rattle.fx_journal.specs.Ring.{HoldsQueue, Queued, RingState, begun, first_place, next_block, number, padded, padded_by, without_first}
use Rattle.fx_journal.specs.Writing.{block_at, first_bytes, wrote}
use Rattle.fx_journal.specs.declared.ring.Wrote.TheVariants.{Block, Nothing}
use Rattle.fx_store.specs.Inside.{IsStore}
use Rattle.fx_store.specs.declared.session.Session.{Session}
use Rattle.fx_store.proofs.Stores.{store-queue}

pub wrote-block : (next : Option ℕ) (sequence : ℕ) → Block sequence ≡ wrote next → next ≡ Some sequence
wrote-block None sequence e = absurd (cc)
wrote-block (Some n) sequence e = ap Some (cc e)

pub wrote-nothing : (next : Option ℕ) → Nothing ≡ wrote next → next ≡ None
wrote-nothing None e = refl
wrote-nothing (Some n) e = absurd (cc)

pub some-unless : (next : Option ℕ) → (next ≡ None → ⊥) → (sequence : ℕ) × (next ≡ Some sequence)
some-unless None h = absurd (h refl)
some-unless (Some n) h = (n, refl)

pub not-both : {A E : Type 0} (r : Result A E) (a : A) (e : E) → r ≡ Ok a → r ≡ Err e → ⊥
not-both r a e good bad = let both : Ok a ≡ Err e = sym good ∙ bad in cc

-- ---- how many blocks wait

pub padded-waits : (ring : RingState) (text : List ℕ) → ring.text ≡ text → (padded_by ring text).queued + begun (padded_by ring text).text ≡ ring.queued + begun ring.text
padded-waits ring [] e = refl
padded-waits ring (x ∷ xs) e = omega (arith, ap begun e)

some-queued : (q : ℕ) (low : Bool) (n sequence : ℕ) → (if nat_lt 0 q && low then Some n else None) ≡ Some sequence → 0 < q
some-queued zero low n sequence e = absurd (cc)
some-queued (suc q) low n sequence e = omega arith

-- one fewer, once the first is written
pub fewer-waits : (ring mid new : RingState) (before sequence : ℕ) → mid ≡ padded ring → new ≡ without_first mid → next_block mid before ≡ Some sequence → new.queued + begun new.text + 1 ≡ ring.queued + begun ring.text
fewer-waits ring mid new before sequence e f next =
    let some = some-queued mid.queued (nat_lt (number (first_place mid)) before) (number (first_place mid)) sequence next in
    let now : new.queued + begun new.text ≡ (mid.queued - 1) + begun mid.text = ap (λ (r : RingState). r.queued + begun r.text) f in
    let then_is : mid.queued + begun mid.text ≡ ring.queued + begun ring.text = ap (λ (r : RingState). r.queued + begun r.text) e ∙ padded-waits ring ring.text refl in
    omega (arith, some, now, then_is)

-- ---- the write

-- the first block that waits was written, or the write failed
module _ {seen : DiskSeen} {from : ℕ} {s : Session} {ring : RingState} {pool : Region} (h : IsStore seen from s ring pool) (later : DiskSeen) (good : Bool) (before sequence : ℕ) (next : next_block ring before ≡ Some sequence)
    (made : (n : ℕ) (queue : List Queued) → next_block ring before ≡ Some n → HoldsQueue ring pool queue → HasWritten seen later (block_at ring n) (first_bytes ring.epoch queue) good) where
  first-written : HasWritten seen later (block_at ring sequence) (first_bytes ring.epoch (store-queue h).0) good
  first-written = made sequence (store-queue h).0 next (store-queue h).1

  pub one-counted : good ≡ true → later.calls ≡ seen.calls + 1
  one-counted was_good = made-counts seen.calls later.calls later.last_made good _ _ was_good first-written.made

  pub one-at-most : later.calls ≤ seen.calls + 1
  one-at-most = one_call_more seen.calls later.calls later.last_made good _ _ first-written.made

  pub failed-last : good ≡ false → HasFailedLast later
  failed-last failed = write_failed_last seen later _ _ (subst (HasWritten seen later (block_at ring sequence) (first_bytes ring.epoch (store-queue h).0)) failed first-written)
