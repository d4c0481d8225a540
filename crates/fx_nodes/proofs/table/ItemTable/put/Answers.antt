use Rattle.std.proofs.Common.{refl, ◌∙◌}
use Rattle.fx_item.specs.Item.{items_of}
use Rattle.fx_item.specs.Look.{value_in}
use Rattle.fx_nodes.proofs.Keys.{sorted_from_ascending}
use Rattle.fx_nodes.proofs.Put.{item_at, items_rest, moves_more, named_rest, sorted_rest}
use Rattle.fx_nodes.proofs.table.ItemTable.put.Goals as goal

pub loop-item-init : goal.loop-item-init
loop-item-init c = record {
  items = λ q. refl;
  named = c.requires.each;
  sorted = sorted_from_ascending (items_of c.args.items.now) c.requires.ascending;
  next_id = λ n e. e;
  next_store = λ n e. e;
}

pub put_one-requires : goal.put_one-requires
put_one-requires c = item_at c.args.items.now c.loop-item.item-index c.item-item.result c.loop-item-test.true c.item-item.is c.requires.each

pub loop-item-preserved : goal.loop-item-preserved
loop-item-preserved c =
    let xs = c.args.items.now in
    let i = c.loop-item.item-index in
    let x = c.item-item.result in
    let less = c.loop-item-test.true in
    let is = c.item-item.is in
    record {
      items = λ q. items_rest xs i x less is (value_in c.loop-item.self.items) (value_in c.put_one.new.self.items) q c.loop-item.invariant.named c.loop-item.invariant.sorted (c.in_ok-put_one.ensures.items q) ∙ c.loop-item.invariant.items q;
      named = named_rest xs i x less is c.loop-item.invariant.named;
      sorted = sorted_rest xs i x less is c.loop-item.invariant.sorted;
      next_id = moves_more xs i x less is _ _ _ _ _ c.loop-item.invariant.next_id c.in_ok-put_one.ensures.next_id;
      next_store = moves_more xs i x less is _ _ _ _ _ c.loop-item.invariant.next_store c.in_ok-put_one.ensures.next_store;
    }
