use Rattle.fx_extent.proofs.Patched.{put_end, put_more}
use Rattle.fx_extent.proofs.patching.put_patches.Goals as goal

pub loop-patch-preserved : goal.loop-patch-preserved
loop-patch-preserved c = put_more c.args.patches.now c.loop-patch.patch-index _ c.args.block.now c.loop-patch.block c.put_patch.new.block c.loop-patch-test.true c.loop-patch.invariant c.put_patch.ensures

pub returns : goal.returns
returns c = put_end c.args.patches.now c.loop-patch.patch-index c.args.block.now c.loop-patch.block c.loop-patch-test.false c.loop-patch.invariant
