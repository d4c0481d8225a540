use Rattle.std.proofs.Common.{ap, ◌∙◌}
use Rattle.std.specs.FinMap as map
use Rattle.fx_plain.specs.Memory.{tree_of}
use Rattle.fx_plain.proofs.Views.{tree_of-insert_entry}
use Rattle.fx_memtree.proofs.tree.MemoryTree.insert.Goals as goal

pub returns-clause-ok : goal.returns-clause-ok
returns-clause-ok c =
    ap tree_of c.in_ok-insert.ensures.entries
    ∙ tree_of-insert_entry c.self.inside.nodes.entries c.in_ok-to_vec.field-0 c.args.node
    ∙ ap (λ path. map.insert (tree_of c.self.inside.nodes.entries) path c.args.node) (c.in_ok-to_vec.ensures.items_if_clones_equal (λ x y e. e))
    ∙ ap (λ tree. map.insert tree c.args.path.now c.args.node) c.self.view_is
