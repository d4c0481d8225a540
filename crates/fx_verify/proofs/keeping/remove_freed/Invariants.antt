use Rattle.std.proofs.Common.{◌≡◌, ◌&&◌, ℕ, not, take}
use Rattle.fx_item.specs.Item.{items_of}
use Rattle.fx_verify.specs.Kept.{is_freed_by}
use Rattle.fx_verify.specs.Wrong.{holds_block}
use Rattle.fx_verify.proofs.keeping.remove_freed.Given as goal

abbrev pub invariant-loop-item : goal.invariant-loop-item
invariant-loop-item l = (block : ℕ) → holds_block l.wrong block ≡ (holds_block l.fn.wrong block && not (is_freed_by (items_of (take l.item-index l.fn.items)) block))
