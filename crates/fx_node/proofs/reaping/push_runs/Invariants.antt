use Rattle.std.proofs.Common.{◌≡◌, ◌++◌, map, take}
use Rattle.fx_item.specs.Item.{items_of}
use Rattle.fx_node.specs.Portions.{run_gone}
use Rattle.fx_node.proofs.reaping.push_runs.Given as goal

abbrev pub invariant-loop-run : goal.invariant-loop-run
invariant-loop-run l = items_of l.items.items ≡ items_of l.fn.items.items ++ map (run_gone l.at) (take l.run-index l.runs)
