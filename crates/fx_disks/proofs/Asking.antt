-- What writes and flushes that are asked for make of a disk in memory.
use Rattle.std.proofs.Common.{◌≡◌, ◌↔◌, ℕ, ◌+◌, ◌-◌, ◌^◌, ◌≤◌, ◌<◌, ◌⊎◌, inl, inr, ⊎_elim, min, Bool, true, false, not, if◌then◌else◌, List, [], ◌∷◌, ◌++◌, length, get_or, refl, subst, sym, ◌∙◌, ap, arith, Option, Some, None, Contains, IsTrue}
use Rattle.std.proofs.lemmas.List.{length-append, length-set}
use Rattle.std.proofs.lemmas.Bool.{cases_lt}
use Rattle.fx_base.specs.Causes.{risen, CountsFault}
use Rattle.fx_disk.specs.Record.{Call, Write, Flush, DiskRecord, IsBlock}
use Rattle.fx_disk.specs.Steps.{MayHold, Writes, Flushes, MadeOrNot, WasMade, WasNotMade, with_write, with_flush, IsRecordOf}
use Rattle.fx_disk.specs.Seen.{HasRead, HasWritten, HasFlushed}
use Rattle.fx_disks.specs.Calls.{record_from}
use Rattle.fx_disks.specs.State.{MemoryState, seen_in, IsAfterRead, Asks, IsAtLimit, IsStarved, IsDone, refused_state, starved_state, made_state, written_record}
use Rattle.fx_disks.proofs.Holding.{record-write, record-flush, holds-written}

-- a call that is made
module _ (s : MemoryState) (n : ℕ) (listed : Bool) (d disk : DiskRecord) (room : length s.disk.calls < 2 ^ 63) (count : n ≡ length s.disk.calls + 1) (h : IsTrue listed ↔ Contains s.fail_calls n) (e : d ≡ disk) where
  pub done-failed : (f : ℕ) → listed ≡ true → f ≡ risen s.faults → Asks s (record s { disk = d; faults = f; last_made = true }) false disk
  done-failed f is_listed g = inr (inr (record {
    room = room;
    listed = ((λ _. subst (λ (k : ℕ). Contains s.fail_calls k) count (h.0 is_listed)), (λ _. refl));
    state = ap (λ (x : DiskRecord). record s { disk = x; faults = f; last_made = true }) e ∙ ap (λ (x : ℕ). record s { disk = disk; faults = x; last_made = true }) g;
  }))

  pub done-good : listed ≡ false → Asks s (record s { disk = d; last_made = true }) true disk
  done-good is_free = inr (inr (record {
    room = room;
    listed = ((λ e. absurd (cc)), (λ held. let is_listed : listed ≡ true = h.1 (subst (λ (k : ℕ). Contains s.fail_calls k) (sym count) held) in absurd (cc)));
    state = ap (λ (x : DiskRecord). record s { disk = x; last_made = true }) e;
  }))

pub kept-as : (xs ys : List Call) (call : Bool → Call) (listed ok : Bool) → ys ≡ xs ++ call (not listed) ∷ [] → not listed ≡ ok → ys ≡ xs ++ call ok ∷ []
kept-as xs ys call listed ok e same = e ∙ ap (λ (t : Bool). xs ++ call t ∷ []) same

pub written-to : (entry : List (List ℕ)) (xs ys : List Call) (at : ℕ) (bytes : List ℕ) (ok : Bool) → ys ≡ xs ++ Write at bytes ok ∷ [] → record_from entry ys ≡ written_record (record_from entry xs) at bytes ok
written-to entry xs ys at bytes ok e = ap (record_from entry) e ∙ record-write entry xs at bytes ok

pub flushed-to : (entry : List (List ℕ)) (xs ys : List Call) (ok : Bool) → ys ≡ xs ++ Flush ok ∷ [] → record_from entry ys ≡ with_flush (record_from entry xs) ok
flushed-to entry xs ys ok e = ap (record_from entry) e ∙ record-flush entry xs ok

-- what the disk tells
made-of : (s t : MemoryState) (ok : Bool) (disk : DiskRecord) (call : Call) (does : Type 0) → length disk.calls ≡ length s.disk.calls + 1 → IsDone s t ok disk → (t.disk ≡ disk → does) → WasMade (length s.disk.calls) (length t.disk.calls) t.last_made does
made-of s t ok disk call does count h then' = record {
  within = h.room;
  counted = ap (λ (x : MemoryState). length x.disk.calls) h.state ∙ count;
  last = ap (λ (x : MemoryState). x.last_made) h.state;
  done = then' (ap (λ (x : MemoryState). x.disk) h.state);
}

asks-told : (s t : MemoryState) (ok : Bool) (disk : DiskRecord) (does : Type 0) → length disk.calls ≡ length s.disk.calls + 1 → (t.disk ≡ disk → does) → Asks s t ok disk
    → MadeOrNot (length s.disk.calls) (length t.disk.calls) t.last_made ok does (Some t.disk ≡ Some s.disk)
asks-told s t ok disk does count then' (inl h) = inr (record {
  failed = h.failed;
  counted = ap (λ (x : MemoryState). length x.disk.calls) h.state;
  last = ap (λ (x : MemoryState). x.last_made) h.state;
  same = ap (λ (x : MemoryState). Some x.disk) h.state;
})
asks-told s t ok disk does count then' (inr (inl h)) = inr (record {
  failed = h.failed;
  counted = ap (λ (x : MemoryState). length x.disk.calls) h.state;
  last = ap (λ (x : MemoryState). x.last_made) h.state;
  same = ap (λ (x : MemoryState). Some x.disk) h.state;
})
asks-told s t ok disk does count then' (inr (inr h)) = inl (made-of s t ok disk (Flush ok) does count h then')

pub told-write : (size n : ℕ) (s t : MemoryState) (at : ℕ) (bytes : List ℕ) (ok : Bool) → IsRecordOf size n s.disk → at < size → IsBlock bytes → Asks s t ok (written_record s.disk at bytes ok)
    → MadeOrNot (length s.disk.calls) (length t.disk.calls) t.last_made ok (Writes (Some s.disk) (Some t.disk) at bytes ok) (Some t.disk ≡ Some s.disk)
told-write size n s t at bytes ok h lt block asks =
    asks-told s t ok (written_record s.disk at bytes ok) (Writes (Some s.disk) (Some t.disk) at bytes ok) (length-append s.disk.calls (Write at bytes ok ∷ []))
    (λ e. (_, holds-written size n s.disk at bytes ok h lt block, ap (λ (x : DiskRecord). Some x) e)) asks

pub told-flush : (s t : MemoryState) (ok : Bool) → Asks s t ok (with_flush s.disk ok)
    → MadeOrNot (length s.disk.calls) (length t.disk.calls) t.last_made ok (Flushes (Some s.disk) (Some t.disk) ok) (Some t.disk ≡ Some s.disk)
told-flush s t ok asks =
    asks-told s t ok (with_flush s.disk ok) (Flushes (Some s.disk) (Some t.disk) ok) (length-append s.disk.calls (Flush ok ∷ [])) (λ e. ap (λ (x : DiskRecord). Some x) e) asks

-- what a call leaves as it was, whether it was made or not
pub asks-keeps : {X : Type 0} (f : MemoryState → X) (s t : MemoryState) (ok : Bool) (disk : DiskRecord) → f (refused_state s) ≡ f s → f (starved_state s) ≡ f s → f (made_state s disk ok) ≡ f s → Asks s t ok disk → f t ≡ f s
asks-keeps f s t ok disk refused starved made (inl h) = ap f h.state ∙ refused
asks-keeps f s t ok disk refused starved made (inr (inl h)) = ap f h.state ∙ starved
asks-keeps f s t ok disk refused starved made (inr (inr h)) = ap f h.state ∙ made

-- the count of faults rises where the call fails, and stays where it does not
made-faults : (s : MemoryState) (ok : Bool) (disk : DiskRecord) → (made_state s disk ok).faults ≡ (if ok then s.faults else risen s.faults)
made-faults s ok disk = refl

pub asks-faults : (s t : MemoryState) (ok : Bool) (disk : DiskRecord) → Asks s t ok disk → t.faults ≡ (if ok then s.faults else risen s.faults)
asks-faults s t ok disk (inl h) = ap (λ (x : MemoryState). x.faults) h.state ∙ sym (ap (λ (b : Bool). if b then s.faults else risen s.faults) h.failed)
asks-faults s t ok disk (inr (inl h)) = ap (λ (x : MemoryState). x.faults) h.state ∙ sym (ap (λ (b : Bool). if b then s.faults else risen s.faults) h.failed)
asks-faults s t ok disk (inr (inr h)) = ap (λ (x : MemoryState). x.faults) h.state

counted : (ok : Bool) (before now : ℕ) → before < 2 ^ 64 → now ≡ (if ok then before else risen before) → CountsFault ok before now
counted true before now few e = record { answer = e; grows = omega (arith, e) }
counted false before now few e = record { answer = omega (arith, e); grows = omega (arith, e, few) }

-- what is seen of the disk over a read, a write and a flush
pub read_seen : (s t : MemoryState) (ok : Bool) → s.reads ≤ 2 ^ 63 → s.faults < 2 ^ 64 → IsAfterRead s t ok → HasRead (seen_in s) (seen_in t) ok
read_seen s t ok few_reads few_faults h = record {
  reads = ap (λ (x : MemoryState). x.reads) h.state;
  grows = omega (arith, few_reads, ap (λ (x : MemoryState). x.reads) h.state);
  limit = below;
  faults = counted ok s.faults t.faults few_faults (ap (λ (x : MemoryState). x.faults) h.state);
  size = ap (λ (x : MemoryState). length x.disk.entry) h.state;
  told = ap (λ (x : MemoryState). Some x.disk) h.state;
  calls = ap (λ (x : MemoryState). length x.disk.calls) h.state;
  last_made = ap (λ (x : MemoryState). x.last_made) h.state;
}
  where
    below : ok ≡ true → s.reads < 2 ^ 63
    below good = ⊎_elim (λ lt. lt) (λ ge. let bad : ok ≡ false = h.failed.1 (inl ge) in absurd (cc)) (cases_lt s.reads (2 ^ 63))

pub write_seen : (size n : ℕ) (s t : MemoryState) (at : ℕ) (bytes : List ℕ) (ok : Bool) → IsRecordOf size n s.disk → at < size → IsBlock bytes → s.faults < 2 ^ 64
    → Asks s t ok (written_record s.disk at bytes ok) → HasWritten (seen_in s) (seen_in t) at bytes ok
write_seen size n s t at bytes ok h lt block few asks = record {
  made = told-write size n s t at bytes ok h lt block asks;
  faults = counted ok s.faults t.faults few (asks-faults s t ok _ asks);
  size = asks-keeps (λ (x : MemoryState). length x.disk.entry) s t ok _ refl refl refl asks;
  reads = asks-keeps (λ (x : MemoryState). x.reads) s t ok _ refl refl refl asks;
}

pub flush_seen : (s t : MemoryState) (ok : Bool) → s.faults < 2 ^ 64 → Asks s t ok (with_flush s.disk ok) → HasFlushed (seen_in s) (seen_in t) ok
flush_seen s t ok few asks = record {
  made = told-flush s t ok asks;
  faults = counted ok s.faults t.faults few (asks-faults s t ok _ asks);
  size = asks-keeps (λ (x : MemoryState). length x.disk.entry) s t ok _ refl refl refl asks;
  reads = asks-keeps (λ (x : MemoryState). x.reads) s t ok _ refl refl refl asks;
}
