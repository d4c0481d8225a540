use Rattle.std.proofs.Common.{take}
use Rattle.fx_found.specs.Image.{lists_of_layers}
use Rattle.fx_found.specs.Reading.{MovesOver}
use Rattle.fx_found.proofs.numbers.past_layers.Given as goal

abbrev pub invariant-loop-layer : goal.invariant-loop-layer
invariant-loop-layer l = MovesOver l.fn.next l.next (lists_of_layers (take l.layer-index l.layers))
