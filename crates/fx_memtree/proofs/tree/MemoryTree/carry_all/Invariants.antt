use Rattle.std.proofs.Common.{◌≡◌, drop}
use Rattle.fx_memtree.specs.Carried.{carried_all}
use Rattle.fx_memtree.proofs.tree.MemoryTree.carry_all.Given as goal

abbrev pub invariant-loop-carry : goal.invariant-loop-carry
invariant-loop-carry l = carried_all l.self (drop l.carry-index l.carries) ≡ carried_all l.initial.self l.carries
