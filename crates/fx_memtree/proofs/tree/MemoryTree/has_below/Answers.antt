use Rattle.std.proofs.Common.{◌≡◌, [], sym, ap, subst, ◌∙◌}
use Rattle.fx_plain.specs.Listing.{IsFirst, paths_from}
use Rattle.fx_steps.specs.Moved.{lies_below}
use Rattle.fx_memtree.proofs.Sought.{first_tells, none_tells}
use Rattle.fx_memtree.proofs.tree.MemoryTree.has_below.Goals as goal

pub returns-in_default : goal.returns-in_default
returns-in_default c =
    let from = c.in_ok-from.ensures.items_if_clones_equal (λ x y e. e) in
    none_tells c.args.self.now c.args.above.now (ap (paths_from c.args.self.now) (sym from) ∙ c.in_default.ensures)

pub returns : goal.returns
returns c =
    let from = c.in_ok-from.ensures.items_if_clones_equal (λ x y e. e) in
    c.lies_below.ensures ∙ ap (lies_below c.args.above.now) c.as_slice.ensures.value ∙ first_tells c.args.self.now c.args.above.now c.in-Some.found.now.items (subst (λ from. IsFirst c.in-Some.found.now.items (paths_from c.args.self.now from)) from c.in-Some.ensures)
