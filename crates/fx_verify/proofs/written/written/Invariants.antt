use Rattle.std.proofs.Common.{[], take}
use Rattle.fx_item.specs.Item.{items_of}
use Rattle.fx_verify.specs.Kept.{is_taken_by}
use Rattle.fx_verify.specs.Written.{MovesTaken, sum_at}
use Rattle.fx_verify.proofs.written.written.Given as goal

abbrev pub invariant-loop-item : goal.invariant-loop-item
invariant-loop-item l = MovesTaken (is_taken_by (items_of (take l.item-index l.fn.items))) (sum_at l.initial.stated) (sum_at l.stated) [] l.written.items
