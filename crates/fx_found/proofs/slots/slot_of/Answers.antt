use Rattle.std.proofs.Common.{refl}
use Rattle.fx_super.specs.Super.{fields_of}
use Rattle.fx_found.proofs.slots.slot_of.Goals as goal

pub returns-in-Err-clause-fault : goal.returns-in-Err-clause-fault
returns-in-Err-clause-fault c image s = c.in-Err.ensures.fault image c.args.blocks c.requires.two s

pub returns-then-slot-blocks-clause-fault : goal.returns-then-slot-blocks-clause-fault
returns-then-slot-blocks-clause-fault c image s = (c.requires.two, refl, (c.in-Ok.slot.which, fields_of c.in-Ok.slot.sup, c.in-Ok.ensures.chosen image s, c.if-slot-blocks.true))
