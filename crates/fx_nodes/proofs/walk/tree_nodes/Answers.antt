use Rattle.std.proofs.Common.{sym, subst, ap, ◌∙◌}
use Rattle.fx_item.specs.Look.{value_in}
use Rattle.fx_plain.specs.declared.path.TheConstants.{MAX_NAMES}
use Rattle.fx_nodes.specs.Tree.{AreTreeNodes, levels}
use Rattle.fx_nodes.proofs.Tree.{are_tree_nodes}
use Rattle.fx_nodes.proofs.walk.tree_nodes.Goals as goal

pub returns : goal.returns
returns c =
    let items = c.args.table.now.items in
    subst (AreTreeNodes (value_in items)) (sym (c.new-2.ensures ∙ c.in_ok-nodes.ensures ∙ ap (λ xs. levels xs MAX_NAMES) c.in_ok-graph.ensures.items))
    (are_tree_nodes items c.in_ok-graph.ensures.kept c.requires MAX_NAMES c.requires.depth)
