use Rattle.std.proofs.Common.{length}
use Rattle.fx_plain.specs.Listing.{paths_from}
use Rattle.fx_plain.proofs.Children.{IsListing}
use Rattle.fx_memtree.proofs.tree.MemoryTree.children.Given as goal

abbrev pub invariant-loop-name : goal.invariant-loop-name
invariant-loop-name l = IsListing l.self l.path l.names.items l.from.items

abbrev pub decreases-loop-name : goal.decreases-loop-name
decreases-loop-name l = length (paths_from l.self l.from.items)
