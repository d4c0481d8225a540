use Rattle.std.proofs.Common.{◌≡◌, ◌-◌, ℕ, sum_by, sym, ap, ◌∙◌, arith}
use Rattle.std.specs.BTreeMap.{values}
use Rattle.std.specs.FinMap as map
use Rattle.fx_plain.specs.Node.{Node}
use Rattle.fx_plain.specs.Tree.{attribute_count, held_count}
use Rattle.fx_plain.proofs.Sizes.{len-tree_of, values-tree_of}
use Rattle.fx_memtree.proofs.tree.MemoryTree.sizes.Goals as goal
use Rattle.fx_memtree.proofs.tree.MemoryTree.sizes.Goals.{After-saturating_sub}

-- a sum over the map in memory is one over the tree
summed : (c : After-saturating_sub) (f : Node → ℕ) → sum_by f (values c.self.inside.nodes) ≡ sum_by f (map.values c.args.self.now)
summed c f = ap (sum_by f) (sym (values-tree_of c.self.inside.nodes.entries c.len.ensures.ordered) ∙ ap map.values c.self.view_is)

counted : (c : After-saturating_sub) → c.saturating_sub.result ≡ map.len c.args.self.now - 1
counted c =
    c.saturating_sub.ensures
    ∙ ap (λ n. n - 1) (c.len.ensures.len ∙ sym (len-tree_of c.self.inside.nodes.entries c.len.ensures.ordered) ∙ ap map.len c.self.view_is)

pub overflow_cast-result : goal.overflow_cast-result
overflow_cast-result c = omega (arith, counted (goal.at.overflow_cast-result c).After-saturating_sub)

pub attributes_of-requires : goal.attributes_of-requires
attributes_of-requires c = omega (arith, summed (goal.at.attributes_of-requires c).After-saturating_sub attribute_count)

pub overflow_cast-result-2 : goal.overflow_cast-result-2
overflow_cast-result-2 c = omega (arith, c.attributes_of.ensures, summed (goal.at.overflow_cast-result-2 c).After-saturating_sub attribute_count)

pub blocks_of-requires : goal.blocks_of-requires
blocks_of-requires c = omega (arith, summed (goal.at.blocks_of-requires c).After-saturating_sub held_count)

pub overflow_cast-result-3 : goal.overflow_cast-result-3
overflow_cast-result-3 c = omega (arith, c.blocks_of.ensures, summed (goal.at.overflow_cast-result-3 c).After-saturating_sub held_count)

pub returns : goal.returns
returns c =
    let w = (goal.at.returns c).After-saturating_sub in
    λ i. record { nodes = counted w i; attributes = (c.attributes_of.ensures ∙ summed w attribute_count) i; blocks = (c.blocks_of.ensures ∙ summed w held_count) i }
