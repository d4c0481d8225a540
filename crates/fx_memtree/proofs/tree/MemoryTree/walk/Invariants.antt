use Rattle.std.proofs.Common.{◌≡◌, take, drop}
use Rattle.fx_plain.specs.Table.{walk, walk_from}
use Rattle.fx_memtree.proofs.tree.MemoryTree.walk.Given as goal

abbrev pub invariant-loop-end : goal.invariant-loop-end
invariant-loop-end l = walk_from l.self (take l.end l.path) (drop l.end l.path) ≡ walk l.self l.path
