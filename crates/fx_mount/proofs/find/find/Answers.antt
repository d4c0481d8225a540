use Rattle.std.proofs.Common.{◌∷◌, ◌∙◌, []}
use Rattle.fx_disk.proofs.Frames.{only_read_then}
use Rattle.fx_mount.proofs.Finding.{chosen-there, goes-on-there, refused-there, slots-two}
use Rattle.fx_mount.proofs.find.find.Goals as goal

pub returns-in-Ok-clause-chosen : goal.returns-in-Ok-clause-chosen
returns-in-Ok-clause-chosen g c =
    chosen-there (g.D.Disk.seen c.args.disk.now) (g.D.Disk.seen c.read_slot.new.disk) c.read_slot.ensures.only c.in_ok-first.first c.in_ok-second.second
    c.in_ok-first.ensures.decoded c.in_ok-second.ensures.decoded c.blocks-blocks.result c.blocks-blocks.ensures c.in-Ok.found c.in-Ok.ensures.chosen

pub returns-in-Ok-clause-goes_on : goal.returns-in-Ok-clause-goes_on
returns-in-Ok-clause-goes_on g c =
    goes-on-there (g.D.Disk.seen c.args.disk.now) (g.D.Disk.seen c.read_slot.new.disk) c.read_slot.ensures.only c.in_ok-first.first c.in_ok-second.second
    c.in_ok-first.ensures.decoded c.in_ok-second.ensures.decoded c.blocks-blocks.result c.blocks-blocks.ensures c.in-Ok.found c.in-Ok.ensures.goes_on

pub found_in-requires-clause-slots : goal.found_in-requires-clause-slots
found_in-requires-clause-slots g c = (
  c.in_ok-first.ensures.decoded.0 ∷ c.in_ok-second.ensures.decoded.0 ∷ [],
  slots-two (g.D.Disk.seen c.args.disk.now) (g.D.Disk.seen c.read_slot.new.disk) c.read_slot.ensures.only c.in_ok-first.first c.in_ok-second.second
      c.in_ok-first.ensures.decoded c.in_ok-second.ensures.decoded,
)

pub returns-in-Err-clause-cause : goal.returns-in-Err-clause-cause
returns-in-Err-clause-cause g c =
    refused-there (g.D.Disk.seen c.args.disk.now) (g.D.Disk.seen c.read_slot.new.disk) c.read_slot.ensures.only c.in_ok-first.first c.in_ok-second.second
    c.in_ok-first.ensures.decoded c.in_ok-second.ensures.decoded c.blocks-blocks.result c.blocks-blocks.ensures
    (g.D.Disk.seen c.read_slot-2.new.disk) c.in-Err.fault c.in-Err.ensures.refused
    (record {
      only = only_read_then (g.D.Disk.seen c.args.disk.now) (g.D.Disk.seen c.read_slot.new.disk) (g.D.Disk.seen c.read_slot-2.new.disk) c.read_slot.ensures.only c.read_slot-2.ensures.only;
      faults = c.in_ok-second.ensures.called.faults ∙ c.in_ok-first.ensures.called.faults;
    })
