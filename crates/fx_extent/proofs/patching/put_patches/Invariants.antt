use Rattle.std.proofs.Common.{◌≡◌, take}
use Rattle.fx_extent.specs.Patches as plain
use Rattle.fx_extent.specs.Patches.{patches_of}
use Rattle.fx_extent.proofs.patching.put_patches.Given as goal

abbrev pub invariant-loop-patch : goal.invariant-loop-patch
invariant-loop-patch l = l.block ≡ plain.put_patches (patches_of (take l.patch-index l.patches)) l.fn.block
