use Rattle.std.proofs.Common.{◌≡◌, ap, ◌∙◌, sym, arith}
use Rattle.std.proofs.lemmas.Bool.{lt-ltb, ltb-true}
use Rattle.std.specs.FinMap as map
use Rattle.fx_plain.specs.Tree.{node_count}
use Rattle.fx_plain.proofs.Sizes.{len-tree_of}
use Rattle.fx_memtree.proofs.tree.MemoryTree.is_countable.Goals as goal

pub returns : goal.returns
returns c =
    let counted : c.len.result ≡ node_count c.args.self.now = c.len.ensures.len ∙ sym (len-tree_of c.self.inside.nodes.entries c.len.ensures.ordered) ∙ ap map.len c.self.view_is in
    (λ h. omega (arith, ltb-true c.len.result 4294967296 h), λ h. lt-ltb c.len.result 4294967296 (omega arith))
