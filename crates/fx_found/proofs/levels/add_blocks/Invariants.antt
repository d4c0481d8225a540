use Rattle.std.proofs.Common.{◌≡◌, ◌++◌, take}
use Rattle.fx_found.specs.Image.{blocks_of_layers}
use Rattle.fx_found.proofs.levels.add_blocks.Given as goal

abbrev pub invariant-loop-layer : goal.invariant-loop-layer
invariant-loop-layer l = l.blocks.items ≡ l.fn.blocks.items ++ blocks_of_layers (take l.layer-index l.layers)
