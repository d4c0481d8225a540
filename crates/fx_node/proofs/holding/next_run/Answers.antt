use Rattle.std.proofs.Common.{sym, subst}
use Rattle.fx_item.specs.Item.{item_of}
use Rattle.fx_item.specs.Overlay.{live_in}
use Rattle.fx_node.specs.Held.{IsNextRun}
use Rattle.fx_node.proofs.Runs.{next_run_found}
use Rattle.fx_node.proofs.holding.next_run.Goals as goal

pub returns-in-Ok-Some-clause-next : goal.returns-in-Ok-Some-clause-next
returns-in-Ok-Some-clause-next g c =
    subst (IsNextRun (live_in (g.L.Look.said c.args.look.now)) c.args.at c.args.from) (sym c.run_in.ensures)
    (next_run_found (g.L.Look.said c.args.look.now) c.args.at c.args.from (item_of c.in-Ok-Some.item) (rw c.in-Ok-Some.field-0-is at c.in-Ok-Some.ensures.found))
