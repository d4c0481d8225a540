use Rattle.fx_plain.specs.Tree.{sizes_of}
use Rattle.fx_plain.specs.Growth.{SizesWithin}
use Rattle.fx_plain.proofs.tests.sizes_after.Given as goal

abbrev pub invariant-loop-i : goal.invariant-loop-i
invariant-loop-i l = SizesWithin l.i (sizes_of l.plain)
