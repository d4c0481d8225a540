use Rattle.fx_memtree.proofs.Gathered.{IsGathering}
use Rattle.fx_memtree.proofs.tree.MemoryTree.carries.Given as goal

abbrev pub invariant-loop-path : goal.invariant-loop-path
invariant-loop-path l = IsGathering l.self l.from l.to l.carries.items l.path-iterator
