use Rattle.std.proofs.Common.{sym, ap, subst, ◌∙◌}
use Rattle.fx_plain.specs.Listing.{IsFirst, paths_from}
use Rattle.fx_plain.proofs.Found.{found_first, found_none}
use Rattle.fx_memtree.proofs.tree.MemoryTree.first_from.Goals as goal

pub returns-in_default : goal.returns-in_default
returns-in_default c =
    ap (λ tree. paths_from tree c.args.from.now.items) (sym c.self.view_is)
    ∙ found_none c.args.from.now c.self.inside.nodes.entries c.range.ensures.ordered (sym (c.range.ensures.between tt) ∙ c.in_default.ensures.steps.0)

pub returns : goal.returns
returns c =
    subst (λ tree. IsFirst c.in-Some.path.now.items (paths_from tree c.args.from.now.items)) c.self.view_is
    (found_first c.args.from.now c.self.inside.nodes.entries c.range.ensures.ordered (c.in-Some.path.now, c.in-Some.field-0-1.now) _ (sym (c.range.ensures.between tt) ∙ c.in-Some.ensures.steps))
