use Rattle.fx_node.proofs.Buried.{graves_end, graves_more, graves_on}
use Rattle.fx_node.proofs.graveyard.graves.Goals as goal

pub returns-in_default-2-clause-graves : goal.returns-in_default-2-clause-graves
returns-in_default-2-clause-graves g c =
    graves_end c.in-Some.is c.nodes.invariant c.in_ok-next.ensures.next c.in_default-2.is c.new.result c.new.ensures

pub nodes-preserved-then-next : goal.nodes-preserved-then-next
nodes-preserved-then-next g c =
    graves_more c.in-Some.is c.nodes.invariant c.in_ok-next.ensures.next c.in-Some-2.next c.in-Some-2.is c.if-next.true _ c.after-from.ensures c.push.new.self.items c.in_ok-push.ensures.items

pub nodes-preserved : goal.nodes-preserved
nodes-preserved g c =
    graves_on c.in-Some.is c.nodes.invariant c.in_ok-next.ensures.next c.in-Some-2.next c.in-Some-2.is c.if-next.false
