-- A fact on what a disk tells, over one call. A call that was not made failed, and leaves what is told.
use Rattle.std.proofs.Common.{◌≡◌, ℕ, Bool, false, List, sym, subst, ⊎_elim, Option, Some, None, IfSome}
use Rattle.fx_disk.specs.Record.{DiskRecord}
use Rattle.fx_disk.specs.Steps.{Writes, Flushes, MayHold, with_write, with_flush}
use Rattle.fx_disk.specs.Seen.{DiskSeen, HasWritten, HasFlushed}
use Rattle.fx_disk.proofs.Told.{told-map}

module _ (I J : DiskRecord → Type 0) (ok : Bool) where
  write_told : (told later : Option DiskRecord) (at : ℕ) (bytes : List ℕ) → Writes told later at bytes ok
      → ((r : DiskRecord) (held : List ℕ) → MayHold bytes ok held → I r → J (with_write r at bytes ok held)) → IfSome told I → IfSome later J
  write_told None later at bytes w step h = rw w h
  write_told (Some r) later at bytes w step h = rw w.2 (step r w.0 w.1 h)

  flush_told : (told later : Option DiskRecord) → Flushes told later ok → ((r : DiskRecord) → I r → J (with_flush r ok)) → IfSome told I → IfSome later J
  flush_told None later w step h = rw w h
  flush_told (Some r) later w step h = rw w (step r h)

  pub lift_write : (before after : DiskSeen) (at : ℕ) (bytes : List ℕ) → HasWritten before after at bytes ok → (ok ≡ false → (r : DiskRecord) → I r → J r)
      → ((r : DiskRecord) (held : List ℕ) → MayHold bytes ok held → I r → J (with_write r at bytes ok held)) → IfSome before.told I → IfSome after.told J
  lift_write before after at bytes x same step h = ⊎_elim
      (λ done. write_told before.told after.told at bytes done.done step h)
      (λ kept. subst (λ (o : Option DiskRecord). IfSome o J) (sym kept.same) (told-map I J before.told (same kept.failed) h))
      x.made

  pub lift_flush : (before after : DiskSeen) → HasFlushed before after ok → (ok ≡ false → (r : DiskRecord) → I r → J r)
      → ((r : DiskRecord) → I r → J (with_flush r ok)) → IfSome before.told I → IfSome after.told J
  lift_flush before after x same step h = ⊎_elim
      (λ done. flush_told before.told after.told done.done step h)
      (λ kept. subst (λ (o : Option DiskRecord). IfSome o J) (sym kept.same) (told-map I J before.told (same kept.failed) h))
      x.made
