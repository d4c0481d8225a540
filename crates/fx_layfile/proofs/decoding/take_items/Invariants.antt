use Rattle.fx_item.specs.Item.{items_of}
use Rattle.fx_layfile.specs.Decoding.{AppendsItems}
use Rattle.fx_layfile.proofs.decoding.take_items.Given as goal

abbrev pub invariant-loop-place : goal.invariant-loop-place
invariant-loop-place l = AppendsItems l.tree l._place l.bytes (items_of l.fn.items.items) (items_of l.items.items) l.rest
