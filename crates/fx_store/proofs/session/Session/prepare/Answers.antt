use Rattle.std.proofs.Common.{◌+◌, arith}
use Rattle.fx_item.specs.Item.{items_of}
use Rattle.fx_store.proofs.Planning.{plan_record}
use Rattle.fx_store.proofs.session.Session.prepare.Goals as goal

pub record_of-requires : goal.record_of-requires
record_of-requires c =
    let s = c.requires.session in
    plan_record s.0 c.plan.new.self.tree c.plan.new.self.nodes c.plan.new.self.next (c.plan.ensures.session s.0 s.1) c.args.step.now (items_of c.in_ok-plan.plan.items) c.in_ok-plan.plan.next (c.in_ok-plan.ensures.plan s.0 s.1)
    (c.number-number.result + 1) (omega (arith, c.number-number.ensures, c.requires.few))
