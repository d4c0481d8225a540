use Rattle.std.proofs.Common.{◌≡◌, [], sym, subst, ap, ◌∙◌, arith}
use Rattle.std.specs.Vec.{vec_len}
use Rattle.std.proofs.lemmas.Bool.{eqb-true}
use Rattle.fx_item.specs.Look.{value_in}
use Rattle.fx_nodes.specs.Links.{links_of, nodes_below}
use Rattle.fx_nodes.specs.Reach.{AreTaken, has}
use Rattle.fx_nodes.proofs.Links.{are_links}
use Rattle.fx_nodes.proofs.Lists.{no_items}
use Rattle.fx_nodes.proofs.Spread.{AreSpreading, spreading_more, spread_all}
use Rattle.fx_nodes.proofs.reach.spread.Goals as goal

pub rounds-preserved : goal.rounds-preserved
rounds-preserved c =
    let links = links_of c.args.graph.now in
    let fresh = c.rounds.fresh.items in
    let old = has c.rounds.left in
    let now = has c.take_from-in-rounds.new.left in
    let below : c.in_ok-below.below.items ≡ nodes_below links fresh = c.in_ok-below.ensures ∙ ap (nodes_below links) c.deref.ensures.value in
    subst (λ all. AreSpreading (value_in c.args.graph.now) c.args.seeds.items (has c.args.left.now) now all c.in_ok-fresh-2.fresh.items) (sym c.in_ok-append.ensures.items)
    (spreading_more (are_links c.args.graph.now c.requires.kept) c.requires.targets old now c.rounds.all.items fresh c.in_ok-fresh-2.fresh.items c.rounds.invariant
    (subst (λ ns. AreTaken old now ns c.in_ok-fresh-2.fresh.items) below c.in_ok-fresh-2.ensures.taken))

pub returns : goal.returns
returns c =
    let zero : vec_len c.rounds.fresh ≡ 0 = eqb-true (vec_len c.rounds.fresh) 0 (sym c.rounds-test.ensures) in
    let none : c.rounds.fresh.items ≡ [] = no_items c.rounds.fresh.items (omega (arith, c.rounds.fresh.ok)) in
    spread_all (are_links c.args.graph.now c.requires.kept) c.requires.targets (has c.rounds.left) c.rounds.all.items
    (subst (AreSpreading (value_in c.args.graph.now) c.args.seeds.items (has c.args.left.now) (has c.rounds.left) c.rounds.all.items) none c.rounds.invariant)
