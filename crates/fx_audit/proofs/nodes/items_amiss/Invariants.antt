use Rattle.std.proofs.Common.{◌≡◌, take}
use Rattle.std.specs.List.{flat_map}
use Rattle.fx_item.specs.Item.{item_of, items_of}
use Rattle.fx_sound.specs.Image.{points_in}
use Rattle.fx_audit.specs.Nodes.{amiss_by}
use Rattle.fx_audit.proofs.nodes.items_amiss.Given as goal

abbrev pub invariant-loop-item : goal.invariant-loop-item
invariant-loop-item l = l.bad.items ≡ flat_map (λ item. amiss_by l.image.ring l.image.disk (points_in (items_of l.image.items.now)) (item_of item)) (take l.item-index l.item-items)
