use Rattle.std.proofs.Common.{arith}
use Rattle.fx_alloc.specs.Layers.{layer_use}
use Rattle.fx_alloc.proofs.ChangeLoops.{change_all-next, change_all-done}
use Rattle.fx_alloc.proofs.Chaining.{ChainsUp-then}
use Rattle.fx_alloc.proofs.layers.take_all_back.Goals as goal

pub loop-block-preserved : goal.loop-block-preserved
loop-block-preserved c = record {
  same = rw c.take_back-chain.ensures.uses (change_all-next layer_use c.args.stay.now c.loop-block.block-index c.loop-block.uses _ (omega arith) c.loop-block.invariant.same);
  chained = ChainsUp-then c.loop-block.invariant.chained c.take_back-chain.ensures.chain;
}

pub returns-clause-uses : goal.returns-clause-uses
returns-clause-uses c = change_all-done layer_use c.args.stay.now c.loop-block.block-index c.loop-block.uses _ (omega arith) c.loop-block.invariant.same
