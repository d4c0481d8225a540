use Rattle.std.proofs.Common.{◌∙◌, sym, ap}
use Rattle.std.specs.FinMap.{insert}
use Rattle.fx_store.proofs.Planning.{parent_at, plan_at, session_at}
use Rattle.fx_store.proofs.session.Session.plan_node.Goals as goal

pub unreachable-requires-in_default-get : goal.unreachable-requires-in_default-get
unreachable-requires-in_default-get c =
    let known = parent_at c.requires.session.0 c.args.self.now.tree c.args.self.now.nodes c.args.self.now.next c.requires.session.1 c.args.kind c.in-Some.above.now c.in-Some.name.now c.args.path.now (sym c.as_slice.ensures ∙ c.in-Some.ensures.cases.0) c.requires.path c.requires.done in
    c.in_default-get.not-Some known.0 (c.get.ensures ∙ known.1)

pub returns-in_err-items-clause-session : goal.returns-in_err-items-clause-session
returns-in_err-items-clause-session c = λ items k.
    session_at items c.args.self.now.tree c.args.self.now.nodes c.args.self.now.next k c.args.kind c.in-Some.above.now c.in-Some.name.now c.args.path.now (sym c.as_slice.ensures ∙ c.in-Some.ensures.cases.0) c.requires.path c.requires.done
    c.in-Some-get.parent (sym c.get.ensures ∙ c.in-Some-get.is) c.child_of-node.result c.child_of-node.ensures c.put.new.self (c.in_ok-put.ensures.ok ∙ ap (λ q. insert c.args.self.now.nodes q c.child_of-node.result) c.as_slice-2.ensures)

pub returns-clause-session : goal.returns-clause-session
returns-clause-session c = λ items k.
    session_at items c.args.self.now.tree c.args.self.now.nodes c.args.self.now.next k c.args.kind c.in-Some.above.now c.in-Some.name.now c.args.path.now (sym c.as_slice.ensures ∙ c.in-Some.ensures.cases.0) c.requires.path c.requires.done
    c.in-Some-get.parent (sym c.get.ensures ∙ c.in-Some-get.is) c.child_of-node.result c.child_of-node.ensures c.put.new.self (c.in_ok-put.ensures.ok ∙ ap (λ q. insert c.args.self.now.nodes q c.child_of-node.result) c.as_slice-2.ensures)

pub returns-clause-plan : goal.returns-clause-plan
returns-clause-plan c = λ items k.
    plan_at items c.args.self.now.tree c.args.self.now.nodes c.args.self.now.next k c.args.kind c.in-Some.above.now c.in-Some.name.now c.args.path.now (sym c.as_slice.ensures ∙ c.in-Some.ensures.cases.0) c.requires.path c.requires.done
    c.in-Some-get.parent (sym c.get.ensures ∙ c.in-Some-get.is) c.child_of-node.result c.child_of-node.ensures c.put.new.self (c.in_ok-put.ensures.ok ∙ ap (λ q. insert c.args.self.now.nodes q c.child_of-node.result) c.as_slice-2.ensures)
    _ c.in_ok-items.ensures c.after_child_of.result c.after_child_of.ensures.id c.after_child_of.ensures.store
