use Rattle.std.proofs.Common.{sym, ap, ◌∙◌}
use Rattle.std.specs.Prelude.{option_map}
use Rattle.fx_item.specs.Item.{value_of}
use Rattle.fx_item.specs.Look.{value_in}
use Rattle.fx_item.specs.declared.item.Key.TheVariants as keys
use Rattle.fx_namespace.specs.Nodes.{object_kind, told_kind}
use Rattle.fx_nodes.proofs.Kept.{value_in-lookup}
use Rattle.fx_nodes.proofs.table.ItemTable.kind.Goals as goal

pub returns : goal.returns
returns c =
    c.told_kind.ensures
    ∙ ap (λ o. told_kind (option_map value_of o)) (c.get.ensures.value)
    ∙ ap told_kind (sym (value_in-lookup c.self.inside.items.entries (keys.Object c.args.node.store c.args.node.id)))
    ∙ ap (λ t. object_kind (value_in t.items) c.args.node) c.self.view_is
