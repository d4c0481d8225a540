use Rattle.std.proofs.Common.{◌≡◌, ℕ, None, take}
use Rattle.std.specs.List.{flat_map}
use Rattle.fx_item.specs.Item.{items_of}
use Rattle.fx_verify.specs.Kept.{block_sums_of, last_stated}
use Rattle.fx_verify.specs.Written.{sum_at}
use Rattle.fx_verify.proofs.written.stated_sums.Given as goal

abbrev pub invariant-loop-item : goal.invariant-loop-item
invariant-loop-item l = (block : ℕ) → sum_at l.stated block ≡ last_stated block (flat_map block_sums_of (items_of (take l.item-index l.fn.items))) None
