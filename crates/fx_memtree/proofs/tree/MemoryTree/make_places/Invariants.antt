use Rattle.std.proofs.Common.{◌≡◌, take}
use Rattle.fx_memtree.specs.Carried.{with_held_places}
use Rattle.fx_memtree.proofs.tree.MemoryTree.make_places.Given as goal

abbrev pub invariant-loop-carry : goal.invariant-loop-carry
invariant-loop-carry l = l.self ≡ with_held_places l.fn.self (take l.carry-index l.carries)
