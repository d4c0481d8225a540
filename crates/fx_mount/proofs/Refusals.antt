-- Why a disk was not mounted, over what was done to it before.
use Rattle.std.proofs.Common.{◌≡◌, ◌∙◌, inl, inr, ⊎_elim, ℕ, refl, sym, ap, subst}
use Rattle.std.specs.Prelude.{IfSome, Option}
use Rattle.fx_base.specs.Causes.{Rose}
use Rattle.fx_disk.specs.Record.{DiskRecord}
use Rattle.fx_disk.specs.Seen.{DiskSeen, HasOnlyRead}
use Rattle.fx_disk.specs.Steps.{IsRecordOf}
use Rattle.fx_disk.proofs.Frames.{only_read_same, only_read_then}
use Rattle.fx_store.specs.Mounted.{LeavesOpening}
use Rattle.fx_store.specs.Opening.{IsBeginCause}
use Rattle.fx_store.specs.declared.opening.NotBegun.{NotBegun}
use Rattle.fx_store.specs.declared.opening.BeginFault.{BeginFault}
use Rattle.fx_store.specs.declared.opening.BeginFault.TheVariants as begin
use Rattle.fx_store.proofs.NewStores.{opening_untouched}
use Rattle.fx_mount.specs.declared.fault.MountFault.{MountFault}
use Rattle.fx_mount.specs.declared.fault.MountFault.TheVariants as faults
use Rattle.fx_mount.specs.Found.{HasReadWell, IsMountCause, IsRefused, IsTold, fault_of}

pub well_same : (a : DiskSeen) → HasReadWell a a
well_same a = record { only = only_read_same a; faults = refl }

pub well_then : (a b c : DiskSeen) → HasReadWell a b → HasReadWell b c → HasReadWell a c
well_then a b c x y = record { only = only_read_then a b c x.only y.only; faults = y.faults ∙ x.faults }

module _ (a b c : DiskSeen) (well : HasReadWell a b) where
  told_earlier : (fault : MountFault) → IsTold b fault → IsTold a fault
  told_earlier fault h =
      subst (λ (n : ℕ). IfSome a.told (λ r. IsRefused n r.contents fault)) well.only.size
      (subst (λ (o : Option DiskRecord). IfSome o (λ r. IsRefused b.size r.contents fault)) well.only.told h)

  failed_earlier : Rose b.faults c.faults → Rose a.faults c.faults
  failed_earlier h = subst (λ (n : ℕ). Rose n c.faults) well.faults h

  -- a cause after reads that did not fail is a cause
  pub cause_earlier : (fault : MountFault) → IsMountCause b c fault → IsMountCause a c fault
  cause_earlier faults.NoSuper h = (well_then a b c well h.0, told_earlier faults.NoSuper h.1)
  cause_earlier (faults.Version v) h = (well_then a b c well h.0, told_earlier (faults.Version v) h.1)
  cause_earlier (faults.DiskSize n) h = (well_then a b c well h.0, told_earlier (faults.DiskSize n) h.1)
  cause_earlier (faults.BadLayer at) h = (well_then a b c well h.0, told_earlier (faults.BadLayer at) h.1)
  cause_earlier (faults.BadRecord place) h = (well_then a b c well h.0, told_earlier (faults.BadRecord place) h.1)
  cause_earlier (faults.BadTree store id) h = (well_then a b c well h.0, told_earlier (faults.BadTree store id) h.1)
  cause_earlier (faults.Cramped free) h = (well_then a b c well h.0, told_earlier (faults.Cramped free) h.1)
  cause_earlier faults.Device h = (failed_earlier h.0, ⊎_elim (λ only. inl (only_read_then a b c well.only only)) (λ last. inr last) h.1)
  cause_earlier faults.OutOfMemory h = well_then a b c well h

-- why no store was begun after them
pub cause_begin : (a b : DiskSeen) → HasReadWell a b → {Device : Type 0} (see : Device → DiskSeen) (disk : Device) → see disk ≡ b → (un : NotBegun Device) (fault : BeginFault) → IsBeginCause disk b un (see un.disk) fault → IsMountCause a (see un.disk) (fault_of fault)
cause_begin a b well see disk is un begin.Device h = (failed_earlier a b (see un.disk) well h.0.faults, inr h.1)
cause_begin a b well see disk is un begin.OutOfMemory h = subst (HasReadWell a) (sym is ∙ ap see (sym h)) well

-- a disk that was only read keeps what it was
pub opening_read : (a b : DiskSeen) → HasOnlyRead a b → IfSome b.told (IsRecordOf b.size b.calls) → LeavesOpening a.calls b
opening_read a b only is = subst (λ (n : ℕ). LeavesOpening n b) only.calls (opening_untouched b is)
