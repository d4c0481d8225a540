use Rattle.std.proofs.Common.{◌+◌, ◌≤◌, length}
use Rattle.fx_plain.specs.Tree.{node_count}
use Rattle.fx_mount.specs.Growing.{HasNodes, HasPaths}
use Rattle.fx_mount.proofs.reading.grow.Given as goal

abbrev pub invariant-loop-node : goal.invariant-loop-node
invariant-loop-node l = record {
  tree : HasNodes l.fn.nodes (length l.yielded) l.tree;
  paths : HasPaths l.fn.nodes (length l.yielded) l.paths;
  count : node_count l.tree ≤ length l.yielded + 1;
}
