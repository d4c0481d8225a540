use Rattle.std.proofs.Common.{sym, subst}
use Rattle.std.specs.Prelude.{option_map}
use Rattle.fx_item.specs.Item.{item_of}
use Rattle.fx_item.specs.Overlay.{live_in}
use Rattle.fx_node.specs.Held.{IsNextAttribute}
use Rattle.fx_node.proofs.Attributes.{next_attribute_found}
use Rattle.fx_node.proofs.holding.next_attribute.Goals as goal

pub returns-clause-next : goal.returns-clause-next
returns-clause-next g c =
    subst (IsNextAttribute (live_in (g.L.Look.said c.args.look.now)) c.args.at c.args.from) (sym c.attribute_name.ensures)
    (next_attribute_found (g.L.Look.said c.args.look.now) c.args.at c.args.from (option_map item_of c.in_ok-next_from.field-0) c.in_ok-next_from.ensures.found)
