use Rattle.std.proofs.Common.{◌≡◌, ◌≤◌, take}
use Rattle.fx_item.specs.Item.{items_of}
use Rattle.fx_sound.specs.Image.{node_total}
use Rattle.fx_audit.proofs.room.node_total.Given as goal

abbrev pub invariant-loop-item : goal.invariant-loop-item
invariant-loop-item l = record {
  is : l.count ≡ node_total (items_of (take l.item-index l.items));
  few : l.count ≤ l.item-index;
}
