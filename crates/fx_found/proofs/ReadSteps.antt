-- Reads of a disk, one after another.
use Rattle.std.proofs.Common.{◌≡◌, ◌≢◌, ℕ, ◌+◌, ◌≤◌, Bool, true, refl, sym, subst, arith}
use Rattle.std.specs.Prelude.{Err}
use Rattle.fx_base.proofs.Faults.{answer_then}
use Rattle.fx_disk.specs.Seen.{DiskSeen}
use Rattle.fx_disk.proofs.Frames.{only_read_then}
use Rattle.fx_found.specs.Reading.{ReadsAtMost, has_read}
use Rattle.fx_found.specs.declared.fault.FindFault.{FindFault}
use Rattle.fx_found.specs.declared.fault.FindFault.TheVariants as faults

pub reads_on : (a b c : DiskSeen) (m n k : ℕ) (good : Bool) → ReadsAtMost a b m true → ReadsAtMost b c n good → m + n ≤ k → ReadsAtMost a c k good
reads_on a b c m n k good x y le = record {
  read = only_read_then a b c x.read y.read;
  faults = answer_then good a.faults b.faults c.faults x.faults y.faults;
  few = omega (arith, x.few, y.few, le);
}

pub reads_within : (a b : DiskSeen) (m k : ℕ) (good : Bool) → ReadsAtMost a b m good → m ≤ k → ReadsAtMost a b k good
reads_within a b m k good x le = record { read = x.read; faults = x.faults; few = omega (arith, x.few, le) }

-- a fault that is not the disk's
pub not_device : (T : Type 0) (fault : FindFault) → fault ≢ faults.Device → has_read {T = T} (Err fault) ≡ true
not_device T faults.Device other = absurd (other refl)
not_device T faults.NoSuper other = refl
not_device T (faults.Version v) other = refl
not_device T (faults.DiskSize n) other = refl
not_device T (faults.BadLayer b) other = refl
not_device T (faults.BadRecord i) other = refl
not_device T (faults.BadTree s i) other = refl
not_device T (faults.Unsound b) other = refl
not_device T (faults.Cramped n) other = refl
not_device T faults.OutOfMemory other = refl

pub reads_unfailed : (T : Type 0) (a b : DiskSeen) (n : ℕ) (fault : FindFault) → fault ≢ faults.Device → ReadsAtMost a b n true → ReadsAtMost a b n (has_read {T = T} (Err fault))
reads_unfailed T a b n fault other x = subst (ReadsAtMost a b n) (sym (not_device T fault other)) x
