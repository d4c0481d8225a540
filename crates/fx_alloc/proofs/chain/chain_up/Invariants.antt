use Rattle.std.proofs.Common.{◌≡◌, drop}
use Rattle.fx_alloc.specs.declared.uses.Use.TheVariants.{Free, Layer}
use Rattle.fx_alloc.specs.Uses.{put_all, blocks_from}
use Rattle.fx_alloc.specs.Uses.{AreUsed}
use Rattle.fx_alloc.proofs.chain.chain_up.Given as goal

abbrev pub invariant-loop-block : goal.invariant-loop-block
invariant-loop-block l = record {
  same : put_all Layer (drop l.block-index l.blocks) l.uses ≡ put_all Layer l.blocks l.initial.uses;
  free : AreUsed Free l.uses (drop l.block-index l.blocks);
  chained : AreUsed Layer l.uses (blocks_from l.links l.chain.head l.chain.len);
  counted : l.chain.len ≡ l.block-index;
}
