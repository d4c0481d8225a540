use Rattle.std.proofs.Common.{ap, ◌∙◌}
use Rattle.std.specs.FinMap as map
use Rattle.fx_memtree.proofs.Taken.{taken_by}
use Rattle.fx_memtree.proofs.tree.MemoryTree.take_away.Goals as goal

pub returns : goal.returns
returns c =
    taken_by c.self.inside.nodes.entries c.remove.new.self.entries c.args.path.now c.remove.ensures.updates.1 c.remove.ensures.updates.3
    ∙ ap (λ tree. map.remove tree c.args.path.now) c.self.view_is
