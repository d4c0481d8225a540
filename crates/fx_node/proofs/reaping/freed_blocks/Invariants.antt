use Rattle.std.proofs.Common.{◌≡◌, take}
use Rattle.std.specs.List.{flat_map}
use Rattle.fx_node.specs.Portions.{blocks_of_run}
use Rattle.fx_node.proofs.reaping.freed_blocks.Given as goal

abbrev pub invariant-loop-run : goal.invariant-loop-run
invariant-loop-run l = l.blocks.items ≡ flat_map blocks_of_run (take l.run-index l.runs)
