use Rattle.std.proofs.Common.{◌∙◌}
use Rattle.fx_memtree.proofs.Sought.{starts_is}
use Rattle.fx_memtree.proofs.tree.lies_below.Goals as goal

pub returns : goal.returns
returns c = c.starts_with.ensures.value ∙ starts_is c.args.above.now c.args.path.now
