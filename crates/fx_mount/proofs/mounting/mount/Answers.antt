use Rattle.std.proofs.Common.{◌∙◌, ℕ, refl, sym, subst, arith}
use Rattle.fx_disk.proofs.Frames.{goes_then, only_read_goes}
use Rattle.fx_store.specs.Mounted.{LeavesOpening}
use Rattle.fx_mount.specs.declared.fault.MountFault.{MountFault}
use Rattle.fx_mount.specs.Found.{IsMountCause}
use Rattle.fx_mount.proofs.Mountable.{can_of_same, has_ring, opens_at}
use Rattle.fx_mount.proofs.Refusals.{cause_begin, opening_read}
use Rattle.fx_mount.proofs.Taken.{answers_free, answers_same}
use Rattle.fx_mount.proofs.mounting.mount.Goals as goal

-- ---- refused before a store was begun

pub returns-in-Err-clause-takes : goal.returns-in-Err-clause-takes
returns-in-Err-clause-takes g c r f txns tree told is =
    answers_free (g.D.Disk.seen c.args.disk) r f txns tree told is (g.D.Disk.seen c.read.new.disk) c.in-Err.fault c.in-Err.ensures.cause

pub returns-in-Err-clause-opening : goal.returns-in-Err-clause-opening
returns-in-Err-clause-opening g c = opening_read (g.D.Disk.seen c.args.disk) (g.D.Disk.seen c.read.new.disk) c.in-Err.ensures.only (g.met.D.Disk.told_ok c.read.new.disk)

pub returns-in-Err-clause-goes : goal.returns-in-Err-clause-goes
returns-in-Err-clause-goes g c = only_read_goes (g.D.Disk.seen c.args.disk) (g.D.Disk.seen c.read.new.disk) c.in-Err.ensures.only

-- ---- a store was begun

pub begin-requires : goal.begin-requires
begin-requires g c =
    can_of_same (g.D.Disk.seen c.read.new.disk) (g.D.Disk.seen c.args.disk) (sym c.read.ensures.only.size) (sym c.read.ensures.only.told) c.in-Ok.it.0 c.in-Ok.it.1 c.in-Ok.ensures.read

pub returns-in-Ok-begin-clause-new : goal.returns-in-Ok-begin-clause-new
returns-in-Ok-begin-clause-new g c = record {
  from = c.in-Ok-begin.ensures.begun.from ∙ c.read.ensures.only.calls;
  history = c.in-Ok-begin.ensures.begun.history;
  waiting = c.in-Ok-begin.ensures.begun.waiting;
  ring = has_ring (g.D.Disk.seen c.args.disk) c.in-Ok.it.0 c.in-Ok.it.1 c.in-Ok.ensures.read c.in-Ok-begin.store.ring c.in-Ok-begin.store.live
      c.in-Ok-begin.ensures.begun.ring c.in-Ok-begin.ensures.begun.live;
  calls = omega (arith, c.in-Ok-begin.ensures.begun.calls, c.read.ensures.only.calls);
  faults = c.in-Ok-begin.ensures.begun.called.faults ∙ c.in-Ok.ensures.well.faults;
}

pub returns-in-Ok-begin-clause-opens : goal.returns-in-Ok-begin-clause-opens
returns-in-Ok-begin-clause-opens g c =
    opens_at (g.D.Disk.seen c.args.disk) c.in-Ok.it.0 c.in-Ok.it.1 c.in-Ok.ensures.read c.in-Ok-begin.store.base c.in-Ok-begin.store.txns
    c.in-Ok-begin.ensures.begun.base c.in-Ok-begin.ensures.begun.txns

pub returns-in-Ok-begin-clause-takes : goal.returns-in-Ok-begin-clause-takes
returns-in-Ok-begin-clause-takes g c r f txns tree told is =
    let at = opens_at (g.D.Disk.seen c.args.disk) c.in-Ok.it.0 c.in-Ok.it.1 c.in-Ok.ensures.read c.in-Ok-begin.store.base c.in-Ok-begin.store.txns
    c.in-Ok-begin.ensures.begun.base c.in-Ok-begin.ensures.begun.txns in
    answers_same (g.D.Disk.seen c.args.disk) r f txns tree told is c.in-Ok-begin.store.base c.in-Ok-begin.store.txns at.0 at.2

pub returns-in-Ok-begin-clause-goes : goal.returns-in-Ok-begin-clause-goes
returns-in-Ok-begin-clause-goes g c =
    goes_then (g.D.Disk.seen c.args.disk) (g.D.Disk.seen c.read.new.disk) (g.D.Disk.seen c.in-Ok-begin.store.disk)
    (only_read_goes (g.D.Disk.seen c.args.disk) (g.D.Disk.seen c.read.new.disk) c.read.ensures.only) c.in-Ok-begin.ensures.goes

-- ---- none was begun

pub returns-in-Err-begin-clause-cause : goal.returns-in-Err-begin-clause-cause
returns-in-Err-begin-clause-cause g c =
    subst (λ (fault : MountFault). IsMountCause (g.D.Disk.seen c.args.disk) (g.D.Disk.seen c.in-Err-begin.un.disk) fault) (sym c.from.ensures)
    (cause_begin (g.D.Disk.seen c.args.disk) (g.D.Disk.seen c.read.new.disk) c.in-Ok.ensures.well g.D.Disk.seen c.read.new.disk refl c.in-Err-begin.un c.in-Err-begin.un.fault c.in-Err-begin.ensures.cause)

pub returns-in-Err-begin-clause-takes : goal.returns-in-Err-begin-clause-takes
returns-in-Err-begin-clause-takes g c r f txns tree told is =
    answers_free (g.D.Disk.seen c.args.disk) r f txns tree told is (g.D.Disk.seen c.in-Err-begin.un.disk) c.from.result
    (subst (λ (fault : MountFault). IsMountCause (g.D.Disk.seen c.args.disk) (g.D.Disk.seen c.in-Err-begin.un.disk) fault) (sym c.from.ensures)
    (cause_begin (g.D.Disk.seen c.args.disk) (g.D.Disk.seen c.read.new.disk) c.in-Ok.ensures.well g.D.Disk.seen c.read.new.disk refl c.in-Err-begin.un c.in-Err-begin.un.fault c.in-Err-begin.ensures.cause))

pub returns-in-Err-begin-clause-opening : goal.returns-in-Err-begin-clause-opening
returns-in-Err-begin-clause-opening g c =
    subst (λ (n : ℕ). LeavesOpening n (g.D.Disk.seen c.in-Err-begin.un.disk)) c.read.ensures.only.calls c.in-Err-begin.ensures.opening

pub returns-in-Err-begin-clause-goes : goal.returns-in-Err-begin-clause-goes
returns-in-Err-begin-clause-goes g c =
    goes_then (g.D.Disk.seen c.args.disk) (g.D.Disk.seen c.read.new.disk) (g.D.Disk.seen c.in-Err-begin.un.disk)
    (only_read_goes (g.D.Disk.seen c.args.disk) (g.D.Disk.seen c.read.new.disk) c.read.ensures.only) c.in-Err-begin.ensures.goes
