use Rattle.std.proofs.Common.{sym, ap, ◌∙◌}
use Rattle.std.specs.FinMap as map
use Rattle.fx_plain.proofs.Views.{get-tree_of}
use Rattle.fx_memtree.proofs.tree.MemoryTree.get.Goals as goal

pub returns : goal.returns
returns c =
    c.get.ensures.value
    ∙ sym (get-tree_of c.self.inside.nodes.entries c.args.path.now)
    ∙ ap (λ tree. map.get tree c.args.path.now) c.self.view_is
