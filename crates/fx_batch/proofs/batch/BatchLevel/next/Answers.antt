use Rattle.std.proofs.Common.{rules, ap, ◌≡◌}
use Rattle.fx_item.specs.Item.{item_of, key_of}
use Rattle.fx_item.specs.Place.{edge_at}
use Rattle.fx_batch.proofs.Sorted.{batch_none, batch_some}
use Rattle.fx_batch.proofs.batch.BatchLevel.next.Goals as goal

pub returns-in_default-clause-found : goal.returns-in_default-clause-found
returns-in_default-clause-found c = batch_none c.args.self.now c.self.inside.items c.as_slice-items.result.now
    (edge_at c.args.edge (key_of c.args.key.now)) _ c.passed.result c.self.view_is c.self.invariant c.as_slice-items.ensures c.edge.ensures
    c.passed.ensures.before c.in_default.ensures.lookup.3

pub returns-clause-found : goal.returns-clause-found
returns-clause-found c =
    let same : item_of c.in_ok-found.found ≡ item_of c.in-Some.item.now = search rules in
    batch_some c.args.self.now c.self.inside.items c.as_slice-items.result.now
    (edge_at c.args.edge (key_of c.args.key.now)) _ c.passed.result c.self.view_is c.self.invariant c.as_slice-items.ensures c.edge.ensures
    c.passed.ensures.before (item_of c.in_ok-found.found) c.in-Some.item.now c.in-Some.ensures.lookup.3.0 c.in-Some.ensures.lookup.1 same c.passed.ensures.behind
