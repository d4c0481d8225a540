use Rattle.std.proofs.Common.{◌≡◌, ◌++◌, map}
use Rattle.fx_item.specs.Item.{items_of}
use Rattle.fx_node.specs.Portions.{attribute_gone}
use Rattle.fx_node.proofs.reaping.push_names.Given as goal

abbrev pub invariant-loop-name : goal.invariant-loop-name
invariant-loop-name l = items_of l.items.items ≡ items_of l.fn.items.items ++ map (attribute_gone l.at) l.yielded
