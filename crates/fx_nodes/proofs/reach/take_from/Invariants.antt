use Rattle.std.proofs.Common.{◌≡◌, ◌+◌, length}
use Rattle.std.specs.BTreeSet.{btree_set_len}
use Rattle.fx_nodes.specs.Reach.{AreTaken, has}
use Rattle.fx_nodes.proofs.reach.take_from.Given as goal

abbrev pub invariant-loop-node : goal.invariant-loop-node
invariant-loop-node l = record {
  taken : AreTaken (has l.fn.left) (has l.left) l.yielded l.fresh.items;
  count : btree_set_len l.left + length l.fresh.items ≡ btree_set_len l.fn.left;
}
