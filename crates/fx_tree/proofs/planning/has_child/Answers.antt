use Rattle.std.proofs.Common.{◌∙◌, subst}
use Rattle.fx_item.specs.Look.{map_of}
use Rattle.fx_dir.specs.Children.{IsFirstChild}
use Rattle.fx_tree.proofs.Exits.{no_child_found}
use Rattle.fx_tree.proofs.planning.has_child.Goals as goal

pub returns-in_default-clause-found : goal.returns-in_default-clause-found
returns-in_default-clause-found g c = no_child_found c.look_laws.ensures.map (g.L.Look.said c.args.look.now) c.args.at c.new-first.result
    (c.new-first.ensures ∙ c.new.ensures.items) (subst (IsFirstChild (map_of (g.L.Look.said c.args.look.now)) c.args.at c.new-first.result) c.in_default.is c.in_ok-_name.ensures.first)
