use Rattle.std.proofs.Common.{◌≡◌, ◌++◌, length}
use Rattle.fx_item.specs.Item.{items_of}
use Rattle.fx_record.specs.Record.{AreItems, items_bytes}
use Rattle.fx_record.proofs.reading.read_items.Given as goal

abbrev pub invariant-loop-place : goal.invariant-loop-place
invariant-loop-place l = record {
  are_items : AreItems (items_of l.items.items);
  place_is : length l.items.items ≡ l.place;
  parts : l.bytes ≡ items_bytes (items_of l.items.items) ++ l.rest;
}
