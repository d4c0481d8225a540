use Rattle.std.proofs.Common.{List, length, sym, subst, ◌≤◌}
use Rattle.std.specs.Prelude.{All, IsTrue}
use Rattle.fx_item.specs.Item.{IsItem, PlainItem, items_of}
use Rattle.fx_item.specs.Order.{is_ascending}
use Rattle.fx_item.specs.Overlay.{says}
use Rattle.fx_contents.proofs.Graveyard.{trims_clear, trims_stands}
use Rattle.fx_node.proofs.Counted.{portion_falls, portion_loses}
use Rattle.fx_node.proofs.InOrder.{portion_ascends, portion_each, portion_few}
use Rattle.fx_node.proofs.Upkeep.{reaped_said, reaping_trims}
use Rattle.fx_node.proofs.laws.portion_laws.Goals as goal

pub returns-clause-ordered : goal.returns-clause-ordered
returns-clause-ordered c = λ m node portion fits p.
    subst (λ (xs : List PlainItem). All IsItem xs × IsTrue (is_ascending xs) × (length xs ≤ 258)) (sym p.items)
    (portion_each node fits p.takes, portion_ascends node fits p.takes, portion_few node fits p.takes)

pub returns-clause-said : goal.returns-clause-said
returns-clause-said c = reaped_said

pub returns-clause-trims : goal.returns-clause-trims
returns-clause-trims c = λ m n node portion within w p after.
    reaping_trims m n node (says (items_of portion.items)) portion.last (reaped_said m node portion p) after w.0 w.1 within

pub returns-clause-tree : goal.returns-clause-tree
returns-clause-tree c = λ m n f t node portion s w p after.
    trims_stands m n node (reaping_trims m n node (says (items_of portion.items)) portion.last (reaped_said m node portion p) after w.0 w.1 s.within) f t s

pub returns-clause-clear : goal.returns-clause-clear
returns-clause-clear c = λ m n f node portion within clear w p after.
    trims_clear m n node (reaping_trims m n node (says (items_of portion.items)) portion.last (reaped_said m node portion p) after w.0 w.1 within) f clear

pub returns-clause-counted : goal.returns-clause-counted
returns-clause-counted c = portion_loses

pub returns-clause-falls : goal.returns-clause-falls
returns-clause-falls c = portion_falls
