use Rattle.std.proofs.Common.{◌≡◌, ◌++◌}
use Rattle.fx_nodes.specs.Links.{objects_of}
use Rattle.fx_nodes.specs.Table.{items_in}
use Rattle.fx_nodes.proofs.table.ItemTable.objects.Given as goal

abbrev pub invariant-loop-key : goal.invariant-loop-key
invariant-loop-key l = l.nodes.items ++ objects_of (items_in l.key-iterator) ≡ objects_of l.self.items
