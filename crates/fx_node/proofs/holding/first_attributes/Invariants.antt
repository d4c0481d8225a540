use Rattle.std.proofs.Common.{◌-◌, ◌≤◌, length}
use Rattle.fx_item.specs.Overlay.{live_in}
use Rattle.fx_node.proofs.Attributes.{AreAttributesBefore}
use Rattle.fx_node.proofs.holding.first_attributes.Given as goal

abbrev pub invariant-names : goal.invariant-names
invariant-names g l = record {
  before : AreAttributesBefore (live_in (g.L.Look.said l.look)) l.at l.from l.names.items;
  few : length l.names.items ≤ l.most;
}

abbrev pub decreases-names : goal.decreases-names
decreases-names g l = l.most - length l.names.items
