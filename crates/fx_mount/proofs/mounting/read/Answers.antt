use Rattle.std.proofs.Common.{ℕ, sym, subst}
use Rattle.fx_super.specs.Super.{fields_of}
use Rattle.fx_mount.specs.Found.{CanGoOn}
use Rattle.fx_mount.proofs.Mountable.{can_found, chooses_found}
use Rattle.fx_mount.proofs.Refusals.{cause_earlier, well_then}
use Rattle.fx_mount.proofs.mounting.read.Goals as goal

pub read_journal-requires-clause-goes_on : goal.read_journal-requires-clause-goes_on
read_journal-requires-clause-goes_on g c = subst (λ (n : ℕ). CanGoOn n (fields_of c.in-Ok.found.sup)) (sym c.find.ensures.only.size) c.in-Ok.ensures.goes_on

pub read_journal-requires-clause-chosen : goal.read_journal-requires-clause-chosen
read_journal-requires-clause-chosen g c = chooses_found (g.D.Disk.seen c.args.disk.now) (g.D.Disk.seen c.find.new.disk) c.in-Ok.found c.find.ensures.only.told c.in-Ok.ensures.chosen

pub returns-in-Ok-read_journal-clause-read : goal.returns-in-Ok-read_journal-clause-read
returns-in-Ok-read_journal-clause-read g c =
    can_found (g.D.Disk.seen c.args.disk.now) (g.D.Disk.seen c.find.new.disk) c.find.ensures.only.size c.find.ensures.only.told c.in-Ok.found c.in-Ok-read_journal.contents
    c.in-Ok.ensures.chosen c.in-Ok-read_journal.ensures.read

pub returns-in-Ok-read_journal-clause-well : goal.returns-in-Ok-read_journal-clause-well
returns-in-Ok-read_journal-clause-well g c =
    well_then (g.D.Disk.seen c.args.disk.now) (g.D.Disk.seen c.find.new.disk) (g.D.Disk.seen c.read_journal.new.disk) c.in-Ok.ensures.well c.in-Ok-read_journal.ensures.well

pub returns-in-Err-read_journal-clause-cause : goal.returns-in-Err-read_journal-clause-cause
returns-in-Err-read_journal-clause-cause g c =
    cause_earlier (g.D.Disk.seen c.args.disk.now) (g.D.Disk.seen c.find.new.disk) (g.D.Disk.seen c.read_journal.new.disk) c.in-Ok.ensures.well c.in-Err-read_journal.fault
    c.in-Err-read_journal.ensures.cause
