use Rattle.std.proofs.Common.{◌≡◌, ◌++◌, sym, subst, ap, ◌∙◌}
use Rattle.std.specs.Prelude.{IfNone, IfSome}
use Rattle.fx_item.specs.Look.{value_in}
use Rattle.fx_namespace.specs.Nodes.{Stands}
use Rattle.fx_namespace.specs.Wrong.{IsLeastWrong}
use Rattle.fx_nodes.specs.Faults.{IsLeastNode}
use Rattle.fx_nodes.specs.Table.{AreKept}
use Rattle.fx_nodes.proofs.Judged.{all_stand, least_wrong}
use Rattle.fx_nodes.proofs.checking.check.Goals as goal
use Rattle.fx_nodes.proofs.checking.check.Goals.{After-least}

-- the items are kept in order
kept : (c : After-least) → AreKept c.in_ok-graph.graph
kept c = subst AreKept (sym c.in_ok-graph.ensures.items) c.in_ok-graph.ensures.kept

-- the nodes of which the least is answered
gathered : (c : After-least) → c.deref.result.now ≡ ((c.in_ok-wrong.wrong.items ++ c.in_ok-led_twice.field-0.items) ++ c.in_ok-lost.field-0.items) ++ c.in_ok-too_deep.field-0.items
gathered c =
    c.deref.ensures.value
    ∙ c.in_ok-append-3.ensures.items
    ∙ ap (λ ns. ns ++ c.in_ok-too_deep.field-0.items) (c.in_ok-append-2.ensures.items ∙ ap (λ ns. ns ++ c.in_ok-lost.field-0.items) c.in_ok-append.ensures.items)

pub returns-clause-wrong : goal.returns-clause-wrong
returns-clause-wrong c =
    let w = (goal.at.returns-clause-wrong c).After-least in
    subst (λ items. IfSome w.least.result (λ node. IsLeastWrong (value_in items) node)) w.in_ok-graph.ensures.items
    (least_wrong (kept w) w.in_ok-wrong.ensures w.in_ok-led_twice.ensures w.in_ok-lost.ensures w.in_ok-too_deep.ensures w.least.result (subst (λ ns. IsLeastNode ns w.least.result) (gathered w) w.least.ensures))

pub returns-clause-stands : goal.returns-clause-stands
returns-clause-stands c =
    let w = (goal.at.returns-clause-stands c).After-least in
    subst (λ items. IfNone w.least.result (Stands (value_in items))) w.in_ok-graph.ensures.items
    (all_stand (kept w) w.in_ok-wrong.ensures w.in_ok-led_twice.ensures w.in_ok-lost.ensures w.in_ok-too_deep.ensures w.least.result (subst (λ ns. IsLeastNode ns w.least.result) (gathered w) w.least.ensures))
