use Rattle.std.proofs.Common.{◌∙◌, sym, subst}
use Rattle.std.specs.Prelude.{IfSome}
use Rattle.fx_disk.specs.Seen.{DiskSeen}
use Rattle.fx_jblock.specs.declared.Start.{Start}
use Rattle.fx_journal.specs.Stream.{IsSeries, IsStream}
use Rattle.fx_super.specs.Super.{Fields, fields_of}
use Rattle.fx_mount.proofs.Contents.{cause_read, read_told, refused_told}
use Rattle.fx_mount.proofs.reading.read_journal.Goals as goal

pub returns-in-Ok-read_contents-clause-read : goal.returns-in-Ok-read_contents-clause-read
returns-in-Ok-read_contents-clause-read g c =
    let old : DiskSeen = g.D.Disk.seen c.args.disk.now in
    let f : Fields = fields_of c.args.sup.now in
    read_told old f c.in-Ok.stream.blocks c.in-Ok.stream.next c.in-Ok-read_contents.contents c.requires.goes_on
    (subst (λ (s : Start). IfSome old.told (λ r. IsStream r.contents f.ring f.generation s c.in-Ok.stream.blocks c.in-Ok.stream.next)) c.start_of.ensures c.in-Ok.ensures.stream)
    (subst (λ (s : Start). IsSeries f.generation s c.in-Ok.stream.blocks c.in-Ok.stream.next) c.start_of.ensures c.in-Ok.ensures.read.series)
    c.in-Ok.ensures.read.few c.in-Ok-read_contents.ensures.holds

pub returns-in-Err-clause-cause : goal.returns-in-Err-clause-cause
returns-in-Err-clause-cause g c =
    let old : DiskSeen = g.D.Disk.seen c.args.disk.now in
    let new : DiskSeen = g.D.Disk.seen c.walk.new.disk in
    let f : Fields = fields_of c.args.sup.now in
    cause_read old new c.in-Err.fault c.in-Err.ensures.memory
    (record { only = c.walk.ensures.disk; faults = c.walk.ensures.unfailed (λ e. cc (sym c.in-Ok.is ∙ e)) })
    (refused_told old f c.in-Ok.stream.blocks c.in-Ok.stream.next c.in-Err.fault c.requires.goes_on c.requires.chosen
    (subst (λ (s : Start). IfSome old.told (λ r. IsStream r.contents f.ring f.generation s c.in-Ok.stream.blocks c.in-Ok.stream.next)) c.start_of.ensures c.in-Ok.ensures.stream)
    c.in-Err.ensures.refused)
