-- The same of what a disk tells, or does not tell.
use Rattle.std.proofs.Common.{◌≡◌, ℕ, List, Bool, true, sym, subst, ⊎_elim}
use Rattle.std.specs.Prelude.{Option, Some, None, IfSome}
use Rattle.fx_disk.specs.Record.{DiskRecord}
use Rattle.fx_disk.specs.Steps.{IsRecordOf, Writes, Flushes, MadeOrNot, with_write, with_flush}
use Rattle.fx_super.specs.Super.{Fields, IsSuper}
use Rattle.fx_super.specs.Chosen.{IsChosen, block_number, other}
use Rattle.fx_super.specs.declared.choice.Which.{Which}
use Rattle.fx_log.specs.Chosen.{next_generation}
use Rattle.fx_log.specs.Raising.{ChoosesSince, ChoosesNext}
use Rattle.fx_log.proofs.SuperCalls.{since-begun, since-flush, since-raise, next-raised}
use Rattle.fx_disk.proofs.Made.{IsTold}

-- nothing was written yet
pub told-begun : (size calls : ℕ) (told : Option DiskRecord) → IsTold size calls told → IfSome told (ChoosesSince calls)
told-begun size calls None h = tt
told-begun size calls (Some r) h =
    subst (λ (n : ℕ). ChoosesSince n r) h.counted (since-begun size r (subst (λ (n : ℕ). IsRecordOf size n r) (sym h.counted) h))

flushes-since : (before after : Option DiskRecord) (from : ℕ) (ok : Bool) → Flushes before after ok → IfSome before (ChoosesSince from) → IfSome after (ChoosesSince from)
flushes-since None after from ok e h = subst (λ (o : Option DiskRecord). IfSome o (ChoosesSince from)) (sym e) tt
flushes-since (Some r) after from ok e h = subst (λ (o : Option DiskRecord). IfSome o (ChoosesSince from)) (sym e) (since-flush from r ok h)

-- a flush, made or not
pub told-flush : (before after : Option DiskRecord) (from m n : ℕ) (made ok : Bool) → MadeOrNot m n made ok (Flushes before after ok) (after ≡ before) → IfSome before (ChoosesSince from) → IfSome after (ChoosesSince from)
told-flush before after from m n made ok d h = ⊎_elim
    (λ y. flushes-since before after from ok y.done h)
    (λ no. subst (λ (o : Option DiskRecord). IfSome o (ChoosesSince from)) (sym no.same) h) d

module _ (size calls : ℕ) (before : Option DiskRecord) (which : Which) (f : Fields) (bytes : List ℕ) (next : IsSuper bytes (next_generation f)) where
  writes-since : (after : Option DiskRecord) (ok : Bool) → IsTold size calls before → IfSome before (λ r. IsChosen r.contents which f)
      → Writes before after (block_number (other which)) bytes ok → IfSome after (ChoosesSince calls)
  writes-since after ok h is w = writes before h is w
    where
      writes : (told : Option DiskRecord) → IsTold size calls told → IfSome told (λ r. IsChosen r.contents which f)
          → Writes told after (block_number (other which)) bytes ok → IfSome after (ChoosesSince calls)
      writes None h is e = subst (λ (o : Option DiskRecord). IfSome o (ChoosesSince calls)) (sym e) tt
      writes (Some r) h is (held, _, e) = subst (λ (o : Option DiskRecord). IfSome o (ChoosesSince calls)) (sym e)
          (subst (λ (n : ℕ). ChoosesSince n (with_write r (block_number (other which)) bytes ok held)) h.counted
          (since-raise size r (subst (λ (n : ℕ). IsRecordOf size n r) (sym h.counted) h) which f is bytes next ok held))

  -- the write of the next superblock, made or not
  pub told-raise : (after : Option DiskRecord) (n : ℕ) (made ok : Bool) → IsTold size calls before → IfSome before (λ r. IsChosen r.contents which f)
      → MadeOrNot calls n made ok (Writes before after (block_number (other which)) bytes ok) (after ≡ before) → IfSome after (ChoosesSince calls)
  told-raise after n made ok h is d = ⊎_elim
      (λ y. writes-since after ok h is y.done)
      (λ no. subst (λ (o : Option DiskRecord). IfSome o (ChoosesSince calls)) (sym no.same) (told-begun size calls before h)) d

  -- a good write of it and a good flush
  pub told-raised : (mid after : Option DiskRecord) → IsTold size calls before → IfSome before (λ r. IsChosen r.contents which f)
      → Writes before mid (block_number (other which)) bytes true → Flushes mid after true → IfSome after (ChoosesNext calls)
  told-raised mid after h is w e = raised before h is w
    where
      raised : (told : Option DiskRecord) → IsTold size calls told → IfSome told (λ r. IsChosen r.contents which f) → Writes told mid (block_number (other which)) bytes true → IfSome after (ChoosesNext calls)
      raised None h is w =
          let e' : Flushes None after true = subst (λ (o : Option DiskRecord). Flushes o after true) w e in
          subst (λ (o : Option DiskRecord). IfSome o (ChoosesNext calls)) (sym e') tt
      raised (Some r) h is (held, _, w) =
          let e' : Flushes (Some (with_write r (block_number (other which)) bytes true held)) after true = subst (λ (o : Option DiskRecord). Flushes o after true) w e in
          subst (λ (o : Option DiskRecord). IfSome o (ChoosesNext calls)) (sym e')
          (subst (λ (n : ℕ). ChoosesNext n (with_flush (with_write r (block_number (other which)) bytes true held) true)) h.counted
          (next-raised size r (subst (λ (n : ℕ). IsRecordOf size n r) (sym h.counted) h) which f is bytes next held))
