use Rattle.fx_merge.proofs.Falls.{falls}
use Rattle.fx_merge.proofs.Passing.{loop_live, loop_more, loop_none, skipped_none}
use Rattle.fx_merge.proofs.run.next_live.Goals as goal

pub loop-fault-init : goal.loop-fault-init
loop-fault-init g c = skipped_none c.args.merge.now

pub returns-in_default-clause-found : goal.returns-in_default-clause-found
returns-in_default-clause-found g c = loop_none c.args.merge.now c.loop-fault.merge c.loop-fault.invariant c.in-Ok.found c.in-Ok.ensures.found c.in_default.is

pub returns-then-not-is_gone-clause-found : goal.returns-then-not-is_gone-clause-found
returns-then-not-is_gone-clause-found g c = loop_live c.args.merge.now c.loop-fault.merge c.loop-fault.invariant c.in-Ok.found c.in-Ok.ensures.found c.in-Ok.ensures.goes_on c.in-Some.item c.in-Some.is c.is_gone.result c.is_gone.ensures c.if-not-is_gone.true

pub loop-fault-smaller : goal.loop-fault-smaller
loop-fault-smaller g c = falls c.loop-fault.merge c.next.new.self c.in-Ok.found c.in-Ok.ensures.found c.in-Ok.ensures.edge c.in-Some.item c.in-Some.is c.in-Ok.ensures.after

pub loop-fault-preserved : goal.loop-fault-preserved
loop-fault-preserved g c = loop_more c.args.merge.now c.loop-fault.merge c.loop-fault.invariant c.in-Ok.found c.in-Ok.ensures.found c.in-Ok.ensures.goes_on c.in-Some.item c.in-Some.is c.is_gone.result c.is_gone.ensures c.next.new.self c.if-not-is_gone.false c.in-Ok.ensures.after
