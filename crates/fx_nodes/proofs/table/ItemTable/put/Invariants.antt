use Rattle.std.proofs.Common.{◌≡◌, take, drop}
use Rattle.std.specs.Prelude.{All}
use Rattle.std.specs.List.Sorted.{IsStrictlySortedBy}
use Rattle.fx_item.specs.Item.{PlainKey, IsNameItem, items_of}
use Rattle.fx_item.specs.Look.{after, next_id, next_store, value_in}
use Rattle.fx_item.specs.Order.{key_cmp}
use Rattle.fx_nodes.specs.Table.{MovesOn}
use Rattle.fx_nodes.proofs.Keys.{item_keys}
use Rattle.fx_nodes.proofs.table.ItemTable.put.Given as goal

abbrev pub invariant-loop-item : goal.invariant-loop-item
invariant-loop-item l = record {
  items : (key : PlainKey) → after (value_in l.self.items) (items_of (drop l.item-index l.items)) key ≡ after (value_in l.fn.self.items) (items_of l.items) key;
  named : All IsNameItem (items_of (drop l.item-index l.items));
  sorted : IsStrictlySortedBy key_cmp (item_keys (items_of (drop l.item-index l.items)));
  next_id : MovesOn 18446744073709551615 l.fn.self.next_id l.self.next_id (λ n. next_id n (items_of (take l.item-index l.items)));
  next_store : MovesOn 4294967295 l.fn.self.next_store l.self.next_store (λ n. next_store n (items_of (take l.item-index l.items)));
}
