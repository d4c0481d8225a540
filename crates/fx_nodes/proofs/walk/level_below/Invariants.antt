use Rattle.std.proofs.Common.{◌≡◌, take}
use Rattle.fx_nodes.specs.Tree.{all_below}
use Rattle.fx_nodes.proofs.walk.level_below.Given as goal

abbrev pub invariant-loop-parent : goal.invariant-loop-parent
invariant-loop-parent l = l.below.items ≡ all_below l.graph (take l.parent-index l.level)
