use Rattle.std.proofs.Common.{◌≡◌, drop}
use Rattle.fx_item.specs.Item.{items_of}
use Rattle.fx_item.specs.Overlay.{says}
use Rattle.fx_worked.specs.Tried.{point_of}
use Rattle.fx_worked.proofs.looking.said_by.Given as goal

abbrev pub invariant-loop-item : goal.invariant-loop-item
invariant-loop-item l = says (items_of (drop l.item-index l.items)) (point_of l.spot) ≡ says (items_of l.items) (point_of l.spot)
