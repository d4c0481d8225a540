use Rattle.std.proofs.Common.{◌≡◌, ◌++◌, length}
use Rattle.fx_found.specs.Image.{layer_levels}
use Rattle.fx_found.specs.Reading.{layers_seen}
use Rattle.fx_found.proofs.levels.shared.Given as goal

abbrev pub invariant-loop-layer : goal.invariant-loop-layer
invariant-loop-layer l = layers_seen l.levels.items ++ layer_levels l.layers.items ≡ layer_levels l.fn.layers.items

abbrev pub decreases-loop-layer : goal.decreases-loop-layer
decreases-loop-layer l = length l.layers.items
