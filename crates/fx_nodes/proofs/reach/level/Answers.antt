use Rattle.std.proofs.Common.{◌≡◌, sym, ap, subst, ◌∙◌}
use Rattle.std.specs.List.{dedup}
use Rattle.std.proofs.lemmas.List.Filters.{dedup_is}
use Rattle.std.proofs.lemmas.List.Kept.{Contains-dedup, Contains-from_dedup}
use Rattle.std.proofs.lemmas.List.Sorted.{Contains-permutation, IsPermutation-sym}
use Rattle.fx_nodes.specs.Lists.{IsIn}
use Rattle.fx_nodes.specs.Links.{is_same_node, links_of, nodes_below}
use Rattle.fx_nodes.proofs.Links.{are_links}
use Rattle.fx_nodes.proofs.Lists.{contains_from, in_from}
use Rattle.fx_nodes.proofs.Nodes.{is_node_equiv, is_node_same}
use Rattle.fx_nodes.proofs.Spread.{level_more}
use Rattle.fx_nodes.proofs.reach.level.Goals as goal

pub loop-shorter-preserved : goal.loop-shorter-preserved
loop-shorter-preserved c =
    let links = links_of c.args.graph.now in
    let level = c.loop-shorter.level.items in
    let below = c.in_ok-level.level.items in
    let sorted = c.sort.new.self.items in
    let next = c.dedup.new.self.items in
    let same : below ≡ nodes_below links level = c.in_ok-level.ensures ∙ ap (nodes_below links) c.deref.ensures.value in
    let once : next ≡ dedup is_same_node sorted = dedup_is is_same_node sorted next c.dedup.ensures.filtered in
    let moved = c.in_ok-sort.ensures.permutation in
    level_more (are_links c.args.graph.now c.requires) c.loop-shorter._shorter level next c.loop-shorter.invariant
    (λ q i.
    subst (λ ns. IsIn ns q) same (in_from below q (Contains-permutation sorted below q (IsPermutation-sym below sorted moved)
    (Contains-from_dedup is_same_node sorted q (contains_from _ q (subst (λ ns. IsIn ns q) once i))))))
    (λ q i.
    subst (λ ns. IsIn ns q) (sym once) (in_from _ q (Contains-dedup is_node_equiv is_node_same sorted q
    (Contains-permutation below sorted q moved (contains_from below q (subst (λ ns. IsIn ns q) (sym same) i))))))
