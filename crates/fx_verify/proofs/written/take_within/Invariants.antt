use Rattle.std.specs.BTreeMap.{btree_map_len}
use Rattle.fx_verify.specs.Kept.{is_within}
use Rattle.fx_verify.specs.Written.{sum_at}
use Rattle.fx_verify.proofs.Moved.{AreMoved}
use Rattle.fx_verify.proofs.written.take_within.Given as goal

abbrev pub invariant-blocks-2 : goal.invariant-blocks-2
invariant-blocks-2 l = AreMoved (is_within l.start l.end) (sum_at l.fn.stated) (sum_at l.stated) l.fn.written.items l.written.items

abbrev pub decreases-blocks-2 : goal.decreases-blocks-2
decreases-blocks-2 l = btree_map_len l.stated
