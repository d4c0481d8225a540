use Rattle.std.proofs.Common.{◌≡◌, ◌≢◌, ℕ, List, ◌∷◌, ◌++◌, sym, ap, subst, ◌∙◌}
use Rattle.fx_plain.specs.Listing.{NextName}
use Rattle.fx_plain.proofs.Children.{next_on, none_on, not_longer, not_stripped, stripped}
use Rattle.fx_memtree.proofs.tree.MemoryTree.next_below.Goals as goal

pub returns-in_default-strip_prefix : goal.returns-in_default-strip_prefix
returns-in_default-strip_prefix c =
    none_on c.args.self.now c.args.path.now c.args.from.now.items c.in-Some.found.now.items c.requires c.in-Some.ensures
    (subst (λ k. (name : List ℕ) (deeper : List (List ℕ)) → k ≢ c.args.path.now ++ name ∷ deeper) c.deref.ensures.value (not_stripped c.deref.result.now c.args.path.now c.in_default-strip_prefix.ensures.cases))

pub returns-in_default-split_first : goal.returns-in_default-split_first
returns-in_default-split_first c =
    none_on c.args.self.now c.args.path.now c.args.from.now.items c.in-Some.found.now.items c.requires c.in-Some.ensures
    (not_longer c.in-Some.found.now.items c.args.path.now c.in-Some-strip_prefix.below.now (sym c.deref.ensures.value ∙ stripped c.deref.result.now c.args.path.now c.in-Some-strip_prefix.below c.in-Some-strip_prefix.ensures.cases) c.in_default-split_first.ensures.cases)

pub returns : goal.returns
returns c =
    let below = c.in-Some-strip_prefix.below.now in
    let name = c.in-Some-split_first.name.now in
    let deeper = c.in-Some-split_first.deeper.now in
    let is : c.in-Some.found.now.items ≡ c.args.path.now ++ below = sym c.deref.ensures.value ∙ stripped c.deref.result.now c.args.path.now c.in-Some-strip_prefix.below c.in-Some-strip_prefix.ensures.cases in
    subst (NextName c.args.self.now c.args.path.now c.args.from.now.items name) (sym c.is_empty.ensures)
    (next_on c.args.self.now c.args.path.now c.args.from.now.items name deeper c.in-Some.found.now.items c.requires (is ∙ ap (λ rest. c.args.path.now ++ rest) c.in-Some-split_first.ensures.cases.0) c.in-Some.ensures)
