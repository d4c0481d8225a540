use Rattle.fx_mount.proofs.find.read_slot.Goals as goal

pub returns-clause-decoded : goal.returns-clause-decoded
returns-clause-decoded g c = (c.read.new.into, c.decode_super.ensures.decoded, c.in_ok-read.ensures.bytes)
