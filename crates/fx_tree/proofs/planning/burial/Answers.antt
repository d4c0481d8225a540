use Rattle.std.proofs.Common.{inr}
use Rattle.fx_item.specs.Item.{item_of, items_of}
use Rattle.fx_item.specs.Overlay.{says}
use Rattle.fx_tree.proofs.Exits.{burial_said}
use Rattle.fx_tree.proofs.Pairs.{turn}
use Rattle.fx_tree.proofs.planning.burial.Goals as goal

pub returns-clause-buried : goal.returns-clause-buried
returns-clause-buried c = turn c.two_items.result (λ items said. λ m through. inr (burial_said m c.args.path.now (says (items_of items))
    (item_of c.in_ok-gone.gone) (item_of c.grave.result) c.in-Some.parent c.args.node c.in-Some.name.now
    (c.in-Some.ensures.last m through) c.in_ok-gone.ensures c.grave.ensures said)) c.two_items.ensures.said
