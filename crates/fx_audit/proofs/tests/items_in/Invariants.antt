use Rattle.std.specs.Prelude.{All}
use Rattle.fx_item.specs.Item.{IsItem, items_of}
use Rattle.fx_audit.proofs.tests.items_in.Given as goal

abbrev pub invariant-loop-row : goal.invariant-loop-row
invariant-loop-row l = All IsItem (items_of l.items.items)
