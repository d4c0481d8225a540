use Rattle.std.proofs.Common.{inr}
use Rattle.fx_item.specs.Item.{item_of, items_of}
use Rattle.fx_item.specs.Overlay.{says}
use Rattle.fx_tree.proofs.Made.{next_said}
use Rattle.fx_tree.proofs.Pairs.{turn}
use Rattle.fx_tree.proofs.planning.new_node.Goals as goal

pub returns-clause-made : goal.returns-clause-made
returns-clause-made c = turn c.two_items.result (λ items said. λ m through. inr (next_said m c.args.path.now c.args.kind c.args.id c.args.store (says (items_of items))
    (item_of c.in_ok-child.child) (item_of c.new_object.result) c.in-Some.parent c.node_below-node.result c.in-Some.name.now
    (c.in-Some.ensures.last m through) c.node_below-node.ensures c.in_ok-child.ensures c.new_object.ensures said)) c.two_items.ensures.said
