use Rattle.std.proofs.Common.{arith}
use Rattle.fx_alloc.proofs.UseLists.{put_all-next, put_all-done}
use Rattle.fx_alloc.proofs.uses.mark.Goals as goal

pub loop-block-preserved : goal.loop-block-preserved
loop-block-preserved c = put_all-next c.args.to c.args.blocks.now c.loop-block.block-index c.loop-block.uses _ (omega arith) c.loop-block.invariant

pub returns : goal.returns
returns c = put_all-done c.args.to c.args.blocks.now c.loop-block.block-index c.loop-block.uses _ (omega arith) c.loop-block.invariant
