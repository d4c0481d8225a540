use Rattle.std.proofs.Common.{sym, subst}
use Rattle.std.specs.Prelude.{option_map}
use Rattle.fx_item.specs.Item.{item_of}
use Rattle.fx_item.specs.Look.{map_of}
use Rattle.fx_dir.specs.Children.{IsFirstChild}
use Rattle.fx_dir.proofs.Listed.{first_child, listed_child}
use Rattle.fx_dir.proofs.children.next_child.Goals as goal

pub returns-clause-first : goal.returns-clause-first
returns-clause-first g c =
    subst (IsFirstChild (map_of (g.L.Look.said c.args.look.now)) c.args.at c.args.from) (sym c.child_name.ensures)
    (first_child (g.L.Look.said c.args.look.now) c.args.at c.args.from (option_map item_of c.in_ok-next_from.field-0) c.in_ok-next_from.ensures.found)

pub returns-clause-listed : goal.returns-clause-listed
returns-clause-listed g c =
    listed_child (map_of (g.L.Look.said c.args.look.now)) c.args.at c.args.from (g.L.Look.keys c.args.look.now) c.in_ok-next_from.ensures.listed c.child_name.result (returns-clause-first g c)
