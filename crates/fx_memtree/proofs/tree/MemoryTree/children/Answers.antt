use Rattle.std.proofs.Common.{[], ◌∷◌, ◌++◌, length, set, ap, ◌∙◌}
use Rattle.fx_plain.proofs.Children.{fewer_paths, has_last, listing_begins, listing_ends, listing_goes_on}
use Rattle.fx_memtree.proofs.tree.MemoryTree.children.Goals as goal

pub loop-name-init : goal.loop-name-init
loop-name-init c =
    listing_begins c.args.self.now c.args.path.now c.new-names.result.items c.push.new.self.items c.in_ok-from.from.items c.new-2.result
    c.new-names.ensures.items c.in_ok-push.ensures.items (c.in_ok-from.ensures.items_if_clones_equal (λ x y e. e)) (c.new-2.ensures ∙ c.new.ensures.items)

pub next_below-requires : goal.next_below-requires
next_below-requires c = c.loop-name.invariant.below

pub go_past-requires : goal.go_past-requires
go_past-requires c = has_last _ _ c.loop-name.invariant.below

pub loop-name-smaller : goal.loop-name-smaller
loop-name-smaller c =
    fewer_paths c.args.self.now c.args.path.now c.loop-name.from.items c.go_past.new.from.items c.in-Some.name.now c.in-Some.is_child
    c.loop-name.invariant.below c.in-Some.ensures (c.in_ok-go_past.ensures ∙ ap (λ name. set c.loop-name.from.items (length c.args.path.now) (name ++ 0 ∷ [])) c.as_slice.ensures)

pub loop-name-preserved : goal.loop-name-preserved
loop-name-preserved c =
    listing_goes_on c.args.self.now c.args.path.now c.loop-name.names.items c.keep.new.names.items c.loop-name.from.items c.go_past.new.from.items c.in-Some.name.now c.in-Some.is_child
    c.loop-name.invariant c.in-Some.ensures c.in_ok-keep.ensures (c.in_ok-go_past.ensures ∙ ap (λ name. set c.loop-name.from.items (length c.args.path.now) (name ++ 0 ∷ [])) c.as_slice.ensures)

pub returns : goal.returns
returns c = listing_ends c.args.self.now c.args.path.now c.loop-name.names.items c.loop-name.from.items c.loop-name.invariant c.in_default.ensures
