use Rattle.std.proofs.Common.{◌≡◌, [], ◌∷◌, ◌++◌, true, sym, ap, subst, ◌∙◌, rules}
use Rattle.fx_steps.specs.Moved.{lies_below}
use Rattle.fx_memtree.proofs.Gathered.{IsGathering, gathering_begins, gathering_ends, gathering_goes_on, no_shorter}
use Rattle.fx_memtree.proofs.tree.MemoryTree.carries.Goals as goal

pub loop-path-init : goal.loop-path-init
loop-path-init c =
    let left : c.into_iter-path-iterator.result ≡ c.range-path-items.result = search rules in
    subst (λ done. IsGathering c.args.self.now c.args.from.now c.args.to.now done c.into_iter-path-iterator.result) (sym c.new-carries.ensures.items)
    (gathering_begins c.args.self.now c.args.from.now c.args.to.now c.in_ok-first.first c.self.inside.nodes.entries c.into_iter-path-iterator.result
    (c.in_ok-first.ensures.items_if_clones_equal (λ x y e. e)) c.self.view_is c.range-path-items.ensures.ordered (left ∙ c.range-path-items.ensures.between tt))

pub returns-then-not-lies_below : goal.returns-then-not-lies_below
returns-then-not-lies_below c =
    gathering_ends c.args.self.now c.args.from.now c.args.to.now c.loop-path.carries.items (c.in-Some.path.now, c.in-Some.field-0-1.now) c.next.new.self
    (subst (IsGathering c.args.self.now c.args.from.now c.args.to.now c.loop-path.carries.items) c.in-Some.ensures.steps c.loop-path.invariant)
    (sym (c.lies_below.ensures ∙ ap (lies_below c.args.from.now) c.as_slice.ensures.value) ∙ c.if-not-lies_below.true)

pub carry_of-requires : goal.carry_of-requires
carry_of-requires c =
    no_shorter c.args.from.now c.in-Some.path.now.items (sym (c.lies_below.ensures ∙ ap (lies_below c.args.from.now) c.as_slice.ensures.value) ∙ c.if-not-lies_below.false)

pub loop-path-preserved : goal.loop-path-preserved
loop-path-preserved c =
    subst (λ done. IsGathering c.args.self.now c.args.from.now c.args.to.now done c.next.new.self)
    (sym (c.in_ok-push.ensures.items ∙ ap (λ way. c.loop-path.carries.items ++ way ∷ []) c.in_ok-carry_of.ensures))
    (gathering_goes_on c.args.self.now c.args.from.now c.args.to.now c.loop-path.carries.items (c.in-Some.path.now, c.in-Some.field-0-1.now) c.next.new.self
    (subst (IsGathering c.args.self.now c.args.from.now c.args.to.now c.loop-path.carries.items) c.in-Some.ensures.steps c.loop-path.invariant)
    (sym (c.lies_below.ensures ∙ ap (lies_below c.args.from.now) c.as_slice.ensures.value) ∙ c.if-not-lies_below.false))
