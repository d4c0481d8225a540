use Rattle.std.specs.Prelude.{Ok, Err}
use Rattle.fx_found.proofs.Supers.{first-alone, second-alone, supers_at}
use Rattle.fx_found.proofs.slots.pick.Goals as goal

pub returns-in-Ok-Err-clause-chosen : goal.returns-in-Ok-Err-clause-chosen
returns-in-Ok-Err-clause-chosen c image s = first-alone image c.in-Ok-Err.sup c.in-Ok-Err.field-0-1 (supers_at image c.args.first c.args.second (Ok c.in-Ok-Err.sup) (Err c.in-Ok-Err.field-0-1) c.in-Ok-Err.is-0 c.in-Ok-Err.is-1 s)

pub returns-in-Err-Ok-clause-chosen : goal.returns-in-Err-Ok-clause-chosen
returns-in-Err-Ok-clause-chosen c image s = second-alone image c.in-Err-Ok.field-0-0 c.in-Err-Ok.sup (supers_at image c.args.first c.args.second (Err c.in-Err-Ok.field-0-0) (Ok c.in-Err-Ok.sup) c.in-Err-Ok.is-0 c.in-Err-Ok.is-1 s)

pub returns-in-Err-Err-clause-fault : goal.returns-in-Err-Err-clause-fault
returns-in-Err-Err-clause-fault c image size two s = c.missing.ensures.fault image size two (supers_at image c.args.first c.args.second (Err c.in-Err-Err.first) (Err c.in-Err-Err.second) c.in-Err-Err.is-0 c.in-Err-Err.is-1 s)
