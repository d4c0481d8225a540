use Rattle.std.proofs.Common.{◌-◌, ◌≤◌, length}
use Rattle.fx_item.specs.Overlay.{live_in}
use Rattle.fx_node.proofs.Runs.{AreRunsBefore}
use Rattle.fx_node.proofs.holding.first_runs.Given as goal

abbrev pub invariant-runs : goal.invariant-runs
invariant-runs g l = record {
  before : AreRunsBefore (live_in (g.L.Look.said l.look)) l.at l.from l.runs.items;
  few : length l.runs.items ≤ l.most;
}

abbrev pub decreases-runs : goal.decreases-runs
decreases-runs g l = l.most - length l.runs.items
