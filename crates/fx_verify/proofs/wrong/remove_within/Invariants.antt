use Rattle.std.proofs.Common.{◌≡◌, ℕ, false}
use Rattle.std.specs.BTreeSet.{btree_set_len}
use Rattle.fx_verify.specs.Kept.{is_within}
use Rattle.fx_verify.specs.Wrong.{holds_block}
use Rattle.fx_verify.proofs.wrong.remove_within.Given as goal

abbrev pub invariant-blocks-2 : goal.invariant-blocks-2
invariant-blocks-2 l = (block : ℕ) → is_within l.start l.end block ≡ false → holds_block l.set block ≡ holds_block l.fn.set block

abbrev pub decreases-blocks-2 : goal.decreases-blocks-2
decreases-blocks-2 l = btree_set_len l.set
