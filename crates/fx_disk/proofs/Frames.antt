-- Frames over calls in a row, and that each call keeps them. The names have no hyphens, so that a
-- function names the ones that it needs: `#[tactic(auto, using(fx_disk::proofs::Frames::goes_then))]`.
use Rattle.std.proofs.Common.{◌≡◌, ◌∙◌, inl, inr, ℕ, ◌+◌, ◌≤◌, Bool, true, false, List, [], ◌∷◌, ◌++◌, length, refl, sym, subst, ⊎_elim, arith}
use Rattle.std.specs.Prelude.{Option, None, Some, IfSome}
use Rattle.std.proofs.lemmas.List.{length-append}
use Rattle.std.proofs.Math.Seq.{get_or-append_seam}
use Rattle.fx_base.specs.Causes.{RoseUnless}
use Rattle.fx_disk.specs.Record.{Call, Write, Flush, DiskRecord, call_at}
use Rattle.fx_disk.specs.Loose.{HasFailed, IsGoodFlush}
use Rattle.fx_disk.specs.Steps.{Writes, Flushes, MadeOrNot, IsRecordOf}
use Rattle.fx_disk.specs.Seen.{DiskSeen, GoesOn, HasOnlyRead, HasCalled, HasRead, HasWritten, HasFlushed, IsFlushedBy, HasFailedLast}
use Rattle.fx_disk.proofs.Longer.{extends_same, extends_then, extends_writes, extends_flushes, extends_made}

-- What any calls leave alone.

pub goes_same : (a : DiskSeen) → GoesOn a a
goes_same a = record {
  size = refl;
  told = extends_same a.told a.told refl;
  calls = omega arith;
  reads = omega arith;
  faults = omega arith;
}

pub goes_then : (a b c : DiskSeen) → GoesOn a b → GoesOn b c → GoesOn a c
goes_then a b c x y = record {
  size = y.size ∙ x.size;
  told = extends_then a.told b.told c.told x.told y.told;
  calls = omega (arith, x.calls, y.calls);
  reads = omega (arith, x.reads, y.reads);
  faults = omega (arith, x.faults, y.faults);
}

pub no_fewer_calls : (before after : ℕ) (made ok : Bool) (does keeps : Type 0) → MadeOrNot before after made ok does keeps → before ≤ after
no_fewer_calls before after made ok does keeps w = ⊎_elim (λ y. omega (arith, y.counted)) (λ no. omega (arith, no.counted)) w

pub one_call_more : (before after : ℕ) (made ok : Bool) (does keeps : Type 0) → MadeOrNot before after made ok does keeps → after ≤ before + 1
one_call_more before after made ok does keeps w = ⊎_elim (λ y. omega (arith, y.counted)) (λ no. omega (arith, no.counted)) w

-- The disk is read, and nothing else.

pub only_read_same : (a : DiskSeen) → HasOnlyRead a a
only_read_same a = record { size = refl; told = refl; calls = refl; last_made = refl; reads = omega arith; faults = omega arith }

pub only_read_then : (a b c : DiskSeen) → HasOnlyRead a b → HasOnlyRead b c → HasOnlyRead a c
only_read_then a b c x y = record {
  size = y.size ∙ x.size;
  told = y.told ∙ x.told;
  calls = y.calls ∙ x.calls;
  last_made = y.last_made ∙ x.last_made;
  reads = omega (arith, x.reads, y.reads);
  faults = omega (arith, x.faults, y.faults);
}

pub only_read_goes : (a b : DiskSeen) → HasOnlyRead a b → GoesOn a b
only_read_goes a b x = record {
  size = x.size;
  told = extends_same a.told b.told x.told;
  calls = omega (arith, x.calls);
  reads = x.reads;
  faults = x.faults;
}

-- What one read, one write and one flush keep.

pub read_only : (a b : DiskSeen) (good : Bool) → HasRead a b good → HasOnlyRead a b
read_only a b good x = record {
  size = x.size;
  told = x.told;
  calls = x.calls;
  last_made = x.last_made;
  reads = x.grows;
  faults = x.faults.grows;
}

pub read_goes : (a b : DiskSeen) (good : Bool) → HasRead a b good → GoesOn a b
read_goes a b good x = only_read_goes a b (read_only a b good x)

pub write_goes : (a b : DiskSeen) (at : ℕ) (bytes : List ℕ) (good : Bool) → HasWritten a b at bytes good → GoesOn a b
write_goes a b at bytes good x = record {
  size = x.size;
  told = extends_made a.told b.told good a.calls b.calls b.last_made _ (extends_writes a.told b.told at bytes good) x.made;
  calls = no_fewer_calls a.calls b.calls b.last_made good _ _ x.made;
  reads = omega (arith, x.reads);
  faults = x.faults.grows;
}

pub flush_goes : (a b : DiskSeen) (good : Bool) → HasFlushed a b good → GoesOn a b
flush_goes a b good x = record {
  size = x.size;
  told = extends_made a.told b.told good a.calls b.calls b.last_made _ (extends_flushes a.told b.told good) x.made;
  calls = no_fewer_calls a.calls b.calls b.last_made good _ _ x.made;
  reads = omega (arith, x.reads);
  faults = x.faults.grows;
}

-- Calls in a row that end at the first failure.

pub called_same : (a : DiskSeen) → HasCalled a a true
called_same a = record { goes = goes_same a; faults = refl }

pub called_then : (a b c : DiskSeen) (good : Bool) → HasCalled a b true → HasCalled b c good → HasCalled a c good
called_then a b c good x y = record {
  goes = goes_then a b c x.goes y.goes;
  faults = subst (λ (n : ℕ). RoseUnless good n c.faults) x.faults y.faults;
}

pub called_goes : (a b : DiskSeen) (good : Bool) → HasCalled a b good → GoesOn a b
called_goes a b good x = x.goes

pub read_called : (a b : DiskSeen) (good : Bool) → HasRead a b good → HasCalled a b good
read_called a b good x = record { goes = read_goes a b good x; faults = x.faults.answer }

pub write_called : (a b : DiskSeen) (at : ℕ) (bytes : List ℕ) (good : Bool) → HasWritten a b at bytes good → HasCalled a b good
write_called a b at bytes good x = record { goes = write_goes a b at bytes good x; faults = x.faults.answer }

pub flush_called : (a b : DiskSeen) (good : Bool) → HasFlushed a b good → HasCalled a b good
flush_called a b good x = record { goes = flush_goes a b good x; faults = x.faults.answer }

-- A call that failed is the last one, or was not made; and stays so over reads.

last_call : (calls : List Call) (call : Call) → call_at (calls ++ call ∷ []) (length calls) ≡ call
last_call calls call = get_or-append_seam calls call [] (Flush false)

abbrev EndsFailed : DiskRecord → Type 0
EndsFailed r = (last : ℕ) × (length r.calls ≡ last + 1) × HasFailed (call_at r.calls last)

ends_failed : (calls : List Call) (call : Call) → HasFailed call → (last : ℕ) × (length (calls ++ call ∷ []) ≡ last + 1) × HasFailed (call_at (calls ++ call ∷ []) last)
ends_failed calls call bad = (length calls, length-append calls (call ∷ []), subst HasFailed (sym (last_call calls call)) bad)

failed_writes : (before after : Option DiskRecord) (at : ℕ) (bytes : List ℕ) (good : Bool) → good ≡ false → Writes before after at bytes good → IfSome after EndsFailed
failed_writes None after at bytes good bad w = subst (λ (o : Option DiskRecord). IfSome o EndsFailed) (sym w) tt
failed_writes (Some r) after at bytes good bad w = subst (λ (o : Option DiskRecord). IfSome o EndsFailed) (sym w.2) (ends_failed r.calls (Write at bytes good) bad)

failed_flushes : (before after : Option DiskRecord) (good : Bool) → good ≡ false → Flushes before after good → IfSome after EndsFailed
failed_flushes None after good bad w = subst (λ (o : Option DiskRecord). IfSome o EndsFailed) (sym w) tt
failed_flushes (Some r) after good bad w = subst (λ (o : Option DiskRecord). IfSome o EndsFailed) (sym w) (ends_failed r.calls (Flush good) bad)

pub write_failed_last : (a b : DiskSeen) (at : ℕ) (bytes : List ℕ) → HasWritten a b at bytes false → HasFailedLast b
write_failed_last a b at bytes x = ⊎_elim
    (λ y. inr (record { some = omega (arith, y.counted); failed = failed_writes a.told b.told at bytes false refl y.done }))
    (λ no. inl no.last)
    x.made

pub flush_failed_last : (a b : DiskSeen) → HasFlushed a b false → HasFailedLast b
flush_failed_last a b x = ⊎_elim
    (λ y. inr (record { some = omega (arith, y.counted); failed = failed_flushes a.told b.told false refl y.done }))
    (λ no. inl no.last)
    x.made

pub failed_last_read : (a b : DiskSeen) → HasOnlyRead a b → HasFailedLast a → HasFailedLast b
failed_last_read a b x last = ⊎_elim
    (λ no. inl (x.last_made ∙ no))
    (λ y. inr (record {
      some = omega (arith, y.some, x.calls);
      failed = subst (λ (o : Option DiskRecord). IfSome o EndsFailed) (sym x.told) y.failed;
    }))
    last

-- A good flush is the last call, and the disk is flushed by it.

good_flushes : (size calls : ℕ) (before after : Option DiskRecord) → IfSome before (IsRecordOf size calls) → Flushes before after true → IfSome after (λ r. IsGoodFlush (call_at r.calls calls))
good_flushes size calls None after is w = subst (λ (o : Option DiskRecord). IfSome o (λ r. IsGoodFlush (call_at r.calls calls))) (sym w) tt
good_flushes size calls (Some r) after is w =
    subst (λ (o : Option DiskRecord). IfSome o (λ r. IsGoodFlush (call_at r.calls calls))) (sym w)
    (subst (λ (k : ℕ). IsGoodFlush (call_at (r.calls ++ Flush true ∷ []) k)) is.counted
    (subst IsGoodFlush (sym (last_call r.calls (Flush true))) refl))

pub flush_flushed : (a b : DiskSeen) → IfSome a.told (IsRecordOf a.size a.calls) → HasFlushed a b true → IsFlushedBy b.calls b
flush_flushed a b is x = ⊎_elim
    (λ y. record { last = a.calls; counted = y.counted; made = refl; flush = good_flushes a.size a.calls a.told b.told is y.done })
    (λ no. let e : true ≡ false = no.failed in absurd (cc))
    x.made
