use Rattle.std.proofs.Common.{◌≡◌, drop, map}
use Rattle.fx_item.specs.Item.{items_of}
use Rattle.fx_item.specs.Overlay.{overlay, says}
use Rattle.fx_worked.specs.Tried.{point_of}
use Rattle.fx_worked.proofs.looking.said_at.Given as goal

abbrev pub invariant-loop-items : goal.invariant-loop-items
invariant-loop-items l = overlay (map (λ items. says (items_of items)) (drop l.items-index l.levels)) (point_of l.spot) ≡ overlay (map (λ items. says (items_of items)) l.levels) (point_of l.spot)
