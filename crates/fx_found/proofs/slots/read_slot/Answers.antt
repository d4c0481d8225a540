use Rattle.fx_found.proofs.Told.{told_block}
use Rattle.fx_found.proofs.slots.read_slot.Goals as goal

pub returns-clause-decoded : goal.returns-clause-decoded
returns-clause-decoded g c = (c.read.new.into, c.decode_super.ensures.decoded, λ image t. told_block (g.D.Disk.seen c.args.disk.now) image c.args.at c.read.new.into t c.in_ok-read.ensures.bytes)
