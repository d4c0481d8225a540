use Rattle.std.proofs.Common.{take}
use Rattle.fx_item.specs.Item.{items_of}
use Rattle.fx_item.specs.Look.{value_in}
use Rattle.fx_sound.specs.Image.{points_in}
use Rattle.fx_audit.specs.Nodes.{AreSeen}
use Rattle.fx_audit.proofs.nodes.names_of.Given as goal

abbrev pub invariant-loop-at : goal.invariant-loop-at
invariant-loop-at l = AreSeen (points_in (items_of l.items)) (take l.at (items_of l.items)) (value_in l.table.items)
