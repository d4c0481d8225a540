use Rattle.std.proofs.Common.{◌≡◌}
use Rattle.fx_nodes.specs.Tree.{level_of, levels}
use Rattle.fx_nodes.proofs.walk.all_levels.Given as goal

abbrev pub invariant-loop-depth : goal.invariant-loop-depth
invariant-loop-depth l = record {
  all : l.all.items ≡ levels l.graph l._depth;
  level : l.level.items ≡ level_of l.graph l._depth;
}
