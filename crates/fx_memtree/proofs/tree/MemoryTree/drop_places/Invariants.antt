use Rattle.std.proofs.Common.{◌≡◌, drop}
use Rattle.fx_memtree.specs.Carried.{without_held_places}
use Rattle.fx_memtree.proofs.tree.MemoryTree.drop_places.Given as goal

abbrev pub invariant-loop-carry : goal.invariant-loop-carry
invariant-loop-carry l = without_held_places l.self (drop l.carry-index l.carries) ≡ without_held_places l.initial.self l.carries
