use Rattle.std.proofs.Common.{◌≡◌, [], ◌∷◌, true, sym, subst, ap, ◌∙◌}
use Rattle.std.specs.List.{filter}
use Rattle.std.proofs.lemmas.Result.{IfOk-weaker}
use Rattle.fx_item.specs.Look.{value_in}
use Rattle.fx_namespace.specs.Nodes.{NodeId, root_node}
use Rattle.fx_nodes.specs.Lists.{IsIn}
use Rattle.fx_nodes.specs.Links.{links_of, nodes_below, objects_of}
use Rattle.fx_nodes.specs.Faults.{AreLost}
use Rattle.fx_nodes.specs.Reach.{AreReached, has}
use Rattle.fx_nodes.proofs.Links.{are_links}
use Rattle.fx_nodes.proofs.Wrong.{lost_from, top_led}
use Rattle.fx_nodes.proofs.checking.lost.Goals as goal

pub spread-requires-clause-seeds : goal.spread-requires-clause-seeds
spread-requires-clause-seeds c = λ node i.
    let led = top_led (are_links c.args.graph.now c.requires) node (subst (λ ns. IsIn ns node) c.in_ok-top.ensures i) in
    c.in_ok-add_all.ensures.kept node (c.in_ok-left.ensures.added node (subst (λ ns. IsIn ns node) (sym (c.deref.ensures.value ∙ c.in_ok-targets.ensures)) led))

pub returns : goal.returns
returns c =
    let m = value_in c.args.graph.now in
    let old = has c.add_all.new.set in
    let now = has c.spread.new.left in
    let objects = c.in_ok-objects.objects.items in
    let all = c.in_ok-spread.field-0.items in
    let same : objects ≡ objects_of c.args.graph.now = c.in_ok-objects.ensures in
    let held : (node : NodeId) → IsIn objects node → old node ≡ true = λ node i. c.in_ok-add_all.ensures.added node (subst (λ ns. IsIn ns node) (sym c.deref-2.ensures.value) i) in
    let reached : AreReached m old now (nodes_below (links_of c.args.graph.now) (root_node ∷ [])) all = subst (λ top. AreReached m old now top all) c.in_ok-top.ensures c.in_ok-spread.ensures in
    let lost : AreLost m objects (filter now objects) = lost_from (are_links c.args.graph.now c.requires) old now all objects reached held in
    IfOk-weaker c.those_in.result (λ found. found.items ≡ filter now c.deref-3.result.now) (λ found. AreLost m (objects_of c.args.graph.now) found.items)
    (λ found e. subst (λ ns. AreLost m ns found.items) same (subst (AreLost m objects) (sym (e ∙ ap (filter now) c.deref-3.ensures.value)) lost)) c.those_in.ensures
