use Rattle.fx_mount.proofs.find.found_in.Goals as goal

pub returns-in-Err-clause-refused : goal.returns-in-Err-clause-refused
returns-in-Err-clause-refused c image s = c.in-Err.ensures.refused image c.args.blocks c.requires.two s

pub check-requires-clause-rules : goal.check-requires-clause-rules
check-requires-clause-rules c = c.in-Ok.ensures.rules c.requires.slots.0 c.requires.slots.1

pub returns-in-Err-check-clause-refused : goal.returns-in-Err-check-clause-refused
returns-in-Err-check-clause-refused c image s = c.in-Err-check.ensures.refused image (c.in-Ok.found.chosen, c.in-Ok.ensures.chosen image s)
