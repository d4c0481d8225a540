use Rattle.std.proofs.Common.{◌≡◌, drop}
use Rattle.fx_alloc.specs.Layers.{layer_use, change_all, ChainsUp}
use Rattle.fx_alloc.proofs.layers.take_all_back.Given as goal

abbrev pub invariant-loop-block : goal.invariant-loop-block
invariant-loop-block l = record {
  same : change_all layer_use (drop l.block-index l.stay) l.uses ≡ change_all layer_use l.stay l.initial.uses;
  chained : ChainsUp l.initial.uses l.uses l.initial.links l.links l.fn.layers l.chain;
}
