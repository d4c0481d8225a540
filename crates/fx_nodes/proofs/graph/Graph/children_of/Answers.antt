use Rattle.std.proofs.Common.{◌≡◌, true, false, sym, ap, subst, ◌∙◌, take, drop, rules}
use Rattle.std.specs.List.Sorted.{IsPartitionPoint, IsPartitionedBy}
use Rattle.std.proofs.lemmas.List.Sorted.{IsPartitionPoint-from_clause}
use Rattle.fx_nodes.specs.Links.{links_from, links_in, links_of}
use Rattle.fx_nodes.proofs.Links.{InOrder, found_from, halves, in_order, is_before, is_of, rest_halves}
use Rattle.fx_nodes.proofs.graph.Graph.children_of.Goals as goal

pub returns : goal.returns
returns c =
    let node = c.args.node in
    let xs = c.as_slice-children.result.now in
    let ys = c.split_at.result.1.now in
    let s = c.partition_point.result in
    let n = c.partition_point-2.result in
    let back : ys ≡ drop s xs = c.split_at.ensures.back in
    let same : links_in xs ≡ links_of c.args.self.now = ap links_in c.as_slice-children.ensures.value ∙ c.self.invariant.1 ∙ ap links_of c.self.view_is in
    let o : InOrder (links_in xs) = subst InOrder (sym same) (subst (λ items. InOrder (links_of items)) c.self.view_is (in_order c.self.inside.table.now.items c.self.invariant.0.ascending)) in
    let p : IsPartitionPoint (λ y. is_before node y ≡ true) (λ y. is_before node y ≡ false) xs s = IsPartitionPoint-from_clause (is_before node) xs s c.partition_point.ensures.partitioned (halves node xs o) (λ a r q k. search rules) in
    let even : IsPartitionedBy (is_of node) ys = subst (λ zs. IsPartitionedBy (is_of node) zs) (sym back) (rest_halves node xs o s p.0 p.1) in
    let q : IsPartitionPoint (λ y. is_of node y ≡ true) (λ y. is_of node y ≡ false) ys n = IsPartitionPoint-from_clause (is_of node) ys n c.partition_point-2.ensures.partitioned even (λ a r q k. search rules) in
    let r : IsPartitionPoint (λ y. is_of node y ≡ true) (λ y. is_of node y ≡ false) (drop s xs) n = subst (λ zs. IsPartitionPoint (λ y. is_of node y ≡ true) (λ y. is_of node y ≡ false) zs n) back q in
    ap links_in (c.split_at-2.ensures.front ∙ ap (take n) back) ∙ found_from node xs o s p.0 p.1 n r.0 r.1 ∙ ap (λ ls. links_from ls node) same
