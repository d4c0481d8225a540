use Rattle.std.proofs.Common.{◌<◌, ◌^◌, sym, subst, rules}
use Rattle.std.specs.Prelude.{option_map}
use Rattle.fx_item.specs.Item.{item_of}
use Rattle.fx_item.specs.Look.{map_of}
use Rattle.fx_node.specs.Waiting.{IsNextNodeIn}
use Rattle.fx_node.proofs.Buried.{next_node_found}
use Rattle.fx_node.proofs.graveyard.next_node.Goals as goal

pub returns-in-Ok-clause-next : goal.returns-in-Ok-clause-next
returns-in-Ok-clause-next g c =
    let fit : c.args.from.id < 2 ^ 64 = search rules in
    subst (IsNextNodeIn (map_of (g.L.Look.said c.args.look.now)) c.args.from) (sym c.node_of.ensures)
    (next_node_found (g.L.Look.said c.args.look.now) c.args.from fit (option_map item_of c.in-Ok.item) c.in-Ok.ensures.found)
