use Rattle.std.proofs.Common.{◌≡◌, refl, sym, ap, subst, ◌∙◌, cond, Some, None}
use Rattle.std.specs.Option.{IsSome}
use Rattle.std.specs.FinMap as map
use Rattle.fx_plain.specs.Memory.{tree_of}
use Rattle.fx_plain.proofs.Views.{get-tree_of, tree_of-set_value}
use Rattle.fx_memtree.proofs.Placed.{left_out, not_placed, placed}
use Rattle.fx_memtree.proofs.Taken.{taken_by}
use Rattle.fx_memtree.proofs.tree.MemoryTree.carry.Goals as goal

pub returns-in_default : goal.returns-in_default
returns-in_default c =
    let old = c.args.old.now in
    let tree = c.args.self.now in
    let taken = taken_by c.self.inside.nodes.entries c.remove.new.self.entries old c.remove.ensures.updates.1 c.remove.ensures.updates.3 ∙ ap (λ t. map.remove t old) c.self.view_is in
    taken ∙ left_out (map.remove tree old) c.args.new.now (map.get tree old) (sym (c.in_default.ensures.value ∙ sym (get-tree_of c.self.inside.nodes.entries old) ∙ ap (λ t. map.get t old) c.self.view_is))

pub returns-in_default-get_mut : goal.returns-in_default-get_mut
returns-in_default-get_mut c =
    let old = c.args.old.now in
    let tree = c.args.self.now in
    let taken = taken_by c.self.inside.nodes.entries c.remove.new.self.entries old c.remove.ensures.updates.1 c.remove.ensures.updates.3 ∙ ap (λ t. map.remove t old) c.self.view_is in
    ap (λ m. tree_of m.entries) c.get_mut.follows.holds-at-none
    ∙ taken
    ∙ not_placed (map.remove tree old) c.args.new.now (map.get tree old) c.in-Some.node
    (sym (c.in-Some.ensures.value ∙ sym (get-tree_of c.self.inside.nodes.entries old) ∙ ap (λ t. map.get t old) c.self.view_is))
    (sym (c.in_default-get_mut.ensures.value ∙ sym (get-tree_of c.remove.new.self.entries c.args.new.now) ∙ ap (λ t. map.get t c.args.new.now) taken))

pub returns : goal.returns
returns c =
    let old = c.args.old.now in
    let tree = c.args.self.now in
    let node = c.in-Some.node in
    let taken = taken_by c.self.inside.nodes.entries c.remove.new.self.entries old c.remove.ensures.updates.1 c.remove.ensures.updates.3 ∙ ap (λ t. map.remove t old) c.self.view_is in
    ap tree_of (c.get_mut.follows.holds node).0
    ∙ tree_of-set_value c.remove.new.self.entries c.args.new.now node (subst IsSome c.in-Some-get_mut.ensures.value refl)
    ∙ ap (λ t. map.insert t c.args.new.now node) taken
    ∙ placed (map.remove tree old) c.args.new.now (map.get tree old) node c.in-Some-get_mut.place.now
    (sym (c.in-Some.ensures.value ∙ sym (get-tree_of c.self.inside.nodes.entries old) ∙ ap (λ t. map.get t old) c.self.view_is))
    (sym (c.in-Some-get_mut.ensures.value ∙ sym (get-tree_of c.remove.new.self.entries c.args.new.now) ∙ ap (λ t. map.get t c.args.new.now) taken))
