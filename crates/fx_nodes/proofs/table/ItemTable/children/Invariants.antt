use Rattle.std.proofs.Common.{◌≡◌, ◌++◌}
use Rattle.fx_nodes.specs.Links.{links_in, links_of}
use Rattle.fx_nodes.specs.Table.{items_in}
use Rattle.fx_nodes.proofs.table.ItemTable.children.Given as goal

abbrev pub invariant-loop-key : goal.invariant-loop-key
invariant-loop-key l = links_in l.children.items ++ links_of (items_in l.key-iterator) ≡ links_of l.self.items
