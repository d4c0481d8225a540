use Rattle.std.proofs.Common.{List, length, sym, subst, ◌≤◌, ◌<◌, ◌^◌, rules}
use Rattle.std.specs.Prelude.{All, IsTrue}
use Rattle.fx_item.specs.Item.{IsItem, PlainItem, items_of}
use Rattle.fx_item.specs.Order.{is_ascending}
use Rattle.fx_item.specs.Overlay.{live_in, over, says}
use Rattle.fx_contents.proofs.Graveyard.{trims_stands}
use Rattle.fx_node.specs.Waiting.{HasNumbers}
use Rattle.fx_node.proofs.InOrder.{portion_ascends, portion_each, portion_few}
use Rattle.fx_node.proofs.Upkeep.{one_more, reaped_said, reaping_trims}
use Rattle.fx_node.proofs.reaping.reap_plan.Goals as goal

pub returns-in-Ok-clause-items : goal.returns-in-Ok-clause-items
returns-in-Ok-clause-items g c =
    let store : c.args.at.store < 2 ^ 32 = search rules in
    let id : c.args.at.id < 2 ^ 64 = search rules in
    let p = c.in-Ok.ensures.portion in
    let fits : HasNumbers c.args.at = record { store = store; id = id } in
    subst (λ (xs : List PlainItem). All IsItem xs × (length xs ≤ 258)) (sym p.items) (portion_each c.args.at fits p.takes, portion_few c.args.at fits p.takes)

pub returns-in-Ok-clause-ascending : goal.returns-in-Ok-clause-ascending
returns-in-Ok-clause-ascending g c =
    let store : c.args.at.store < 2 ^ 32 = search rules in
    let id : c.args.at.id < 2 ^ 64 = search rules in
    let p = c.in-Ok.ensures.portion in
    let fits : HasNumbers c.args.at = record { store = store; id = id } in
    subst (λ (xs : List PlainItem). IsTrue (is_ascending xs)) (sym p.items) (portion_ascends c.args.at fits p.takes)

pub returns-in-Ok-clause-tree : goal.returns-in-Ok-clause-tree
returns-in-Ok-clause-tree g c = λ f t s.
    let said = g.L.Look.said c.args.look.now in
    let items = items_of c.in-Ok.portion.items in
    trims_stands (live_in said) (live_in (over (says items) said)) c.args.at
    (reaping_trims (live_in said) (live_in (over (says items) said)) c.args.at (says items) c.in-Ok.portion.last (reaped_said (live_in said) c.args.at c.in-Ok.portion c.in-Ok.ensures.portion)
    (λ p _. sym (one_more (says items) said p)) c.requires.0 c.requires.1 s.within) f t s
