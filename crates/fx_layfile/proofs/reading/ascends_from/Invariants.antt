use Rattle.std.proofs.Common.{◌≡◌, take, true}
use Rattle.fx_item.specs.Item.{items_of}
use Rattle.fx_item.specs.Order.{is_ascending}
use Rattle.fx_layfile.proofs.reading.ascends_from.Given as goal

abbrev pub invariant-loop-i : goal.invariant-loop-i
invariant-loop-i l = is_ascending (items_of (take l.i l.items)) ≡ true
