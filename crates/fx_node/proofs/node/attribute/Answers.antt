use Rattle.std.proofs.Common.{◌∙◌, ap, rules, ◌≡◌}
use Rattle.fx_item.specs.Item.{AttributeKey}
use Rattle.fx_item.specs.Look.{map_of}
use Rattle.fx_contents.specs.Points.{text_in}
use Rattle.fx_node.proofs.Seen.{attribute_seen}
use Rattle.fx_node.proofs.node.attribute.Goals as goal

pub returns-in-Ok-clause-tree : goal.returns-in-Ok-clause-tree
returns-in-Ok-clause-tree g c = λ f t path s way.
    let same : c.in_ok-clone.field-0 ≡ c.args.name.now = search rules in
    c.text_in.ensures ∙ ap text_in c.in-Ok.ensures.found ∙ ap (λ n. text_in (map_of (g.L.Look.said c.args.look.now) (AttributeKey c.args.at.store c.args.at.id n))) same ∙ attribute_seen s path c.args.at way c.args.name.now
