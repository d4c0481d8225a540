use Rattle.std.proofs.Common.{◌+◌, length}
use Rattle.std.specs.BTreeSet.{btree_set_len}
use Rattle.fx_item.specs.Look.{value_in}
use Rattle.fx_nodes.specs.Reach.{has}
use Rattle.fx_nodes.proofs.Spread.{AreSpreading}
use Rattle.fx_nodes.proofs.reach.spread.Given as goal

abbrev pub invariant-rounds : goal.invariant-rounds
invariant-rounds l = AreSpreading (value_in l.graph) l.fn.seeds.items (has l.fn.left) (has l.left) l.all.items l.fresh.items

abbrev pub decreases-rounds : goal.decreases-rounds
decreases-rounds l = btree_set_len l.left + length l.fresh.items
