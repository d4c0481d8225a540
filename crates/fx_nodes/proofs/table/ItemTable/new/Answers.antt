use Rattle.std.proofs.Common.{sym, subst}
use Rattle.fx_nodes.specs.Table.{AreKept, items_in}
use Rattle.fx_nodes.proofs.Kept.{kept_empty}
use Rattle.fx_nodes.proofs.table.ItemTable.new.Goals as goal

pub invariant_of-result : goal.invariant_of-result
invariant_of-result c = subst (λ es. AreKept (items_in es)) (sym c.new.ensures.empty) kept_empty
