use Rattle.std.proofs.Common.{◌≡◌, arith, sym, subst, ◌∙◌}
use Rattle.std.proofs.lemmas.Bool.{eqb-true}
use Rattle.std.specs.Vec.{vec_len}
use Rattle.std.proofs.lemmas.Result.{IfOk-weaker}
use Rattle.fx_item.specs.Look.{value_in}
use Rattle.fx_nodes.specs.Lists.{IsIn}
use Rattle.fx_nodes.specs.Faults.{AreDeep}
use Rattle.fx_nodes.specs.Reach.{AreReached, has}
use Rattle.fx_nodes.proofs.Links.{are_links}
use Rattle.fx_nodes.proofs.Lists.{no_items}
use Rattle.fx_nodes.proofs.Wrong.{deep_from, deep_none, level_led}
use Rattle.fx_nodes.proofs.checking.too_deep.Goals as goal

pub returns-then-is_empty : goal.returns-then-is_empty
returns-then-is_empty c =
    let zero : vec_len c.in_ok-seeds.seeds ≡ 0 = eqb-true (vec_len c.in_ok-seeds.seeds) 0 (sym c.if-is_empty.ensures) in
    deep_none c.in_ok-seeds.ensures (no_items c.in_ok-seeds.seeds.items (omega (arith, c.in_ok-seeds.seeds.ok)))

pub spread-requires-clause-seeds : goal.spread-requires-clause-seeds
spread-requires-clause-seeds c = λ node i.
    let led = level_led (are_links c.args.graph.now c.requires) 64 c.in_ok-seeds.seeds.items node c.in_ok-seeds.ensures i in
    c.in_ok-left.ensures.added node (subst (λ ns. IsIn ns node) (sym (c.deref.ensures.value ∙ c.in_ok-targets.ensures)) led)

pub returns : goal.returns
returns c =
    IfOk-weaker c.spread.result (λ all. AreReached (value_in c.args.graph.now) (has c.in_ok-left.left) (has c.spread.new.left) c.in_ok-seeds.seeds.items all.items) (λ deep. AreDeep (value_in c.args.graph.now) deep.items)
    (λ all r. deep_from c.in_ok-seeds.ensures (has c.in_ok-left.left) (has c.spread.new.left) all.items r) c.spread.ensures
