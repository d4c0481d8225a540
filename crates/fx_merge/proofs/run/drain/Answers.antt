use Rattle.std.proofs.Common.{rules, ◌≡◌, sym, subst}
use Rattle.fx_item.specs.Item.{items_of}
use Rattle.fx_merge.specs.Run.{IsMerged}
use Rattle.fx_merge.proofs.Drained.{Drained, drain_end, drain_more, drained_none, moved_item}
use Rattle.fx_merge.proofs.Falls.{falls}
use Rattle.fx_merge.proofs.run.drain.Goals as goal

pub loop-fault-init : goal.loop-fault-init
loop-fault-init g c = subst (λ xs. Drained c.args.merge.now c.args.merge.now (items_of xs)) (sym c.new-items.ensures.items) (drained_none c.args.merge.now)

pub returns-in_default-clause-merged : goal.returns-in_default-clause-merged
returns-in_default-clause-merged g c =
    let same : c.new.result ≡ c.loop-fault.items.items = search rules in
    subst (λ xs. IsMerged c.args.merge.now (items_of xs)) (sym same)
    (drain_end c.args.merge.now c.loop-fault.merge (items_of c.loop-fault.items.items) c.loop-fault.invariant c.in-Ok.found c.in-Ok.ensures.found c.in_default.is)

pub loop-fault-smaller : goal.loop-fault-smaller
loop-fault-smaller g c = falls c.loop-fault.merge c.next.new.self c.in-Ok.found c.in-Ok.ensures.found c.in-Ok.ensures.edge c.in-Some.item c.in-Some.is c.in-Ok.ensures.after

pub loop-fault-preserved : goal.loop-fault-preserved
loop-fault-preserved g c = drain_more c.args.merge.now c.loop-fault.merge c.next.new.self c.loop-fault.items.items c.push.new.self.items c.loop-fault.invariant
    c.in-Ok.found c.in-Ok.ensures.found c.in-Ok.ensures.goes_on c.in-Some.item c.in-Some.is c.in-Ok.ensures.after c.in-Ok-push.ensures.items

pub returns-in_default-push-clause-moved : goal.returns-in_default-push-clause-moved
returns-in_default-push-clause-moved g c = moved_item c.args.merge.now c.loop-fault.merge (items_of c.loop-fault.items.items) c.loop-fault.invariant c.in-Ok.found c.next.new.self c.in-Ok.ensures.after c.in-Ok.ensures.found c.in-Some.item c.in-Some.is
