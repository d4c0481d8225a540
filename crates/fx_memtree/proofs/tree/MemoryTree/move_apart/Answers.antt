use Rattle.std.proofs.Common.{◌≡◌, false, take, sym, ap, ◌∙◌}
use Rattle.std.specs.List.{list_any}
use Rattle.fx_steps.specs.Moved.{has_below}
use Rattle.fx_steps.specs.Rows.{too_deep}
use Rattle.fx_memtree.specs.Carried.{carried_all, ends_deep, with_held_places, without_held_places}
use Rattle.fx_memtree.proofs.MoveRows.{all_carried, deep_is, err_fact, given_back, ok_fact, too_long}
use Rattle.fx_memtree.proofs.tree.MemoryTree.move_apart.Goals as goal

pub returns-then-is_too_deep-clause-ok : goal.returns-then-is_too_deep-clause-ok
returns-then-is_too_deep-clause-ok c =
    let tree = c.args.self.now in
    let from = c.args.from.now in
    let to = c.args.to.now in
    too_long tree from to (sym c.in_ok-has_below.ensures ∙ c.if-branch.false)
    (sym (c.is_too_deep.ensures ∙ ap (list_any ends_deep) (c.as_slice.ensures.value ∙ c.in_ok-carries.ensures) ∙ deep_is tree from to) ∙ c.if-is_too_deep.true)

pub returns-then-is_err-clause-err : goal.returns-then-is_err-clause-err
returns-then-is_err-clause-err c =
    let tree = c.args.self.now in
    let from = c.args.from.now in
    let to = c.args.to.now in
    let carries = c.in_ok-carries.carries.items in
    let made = err_fact c.make_places.result c.if-is_err.ensures.value c.make_places.ensures.err in
    given_back tree c.make_places.new.self c.drop_places.new.self from to carries made.0 c.requires.apart c.requires.there (sym c.in_ok-has_below.ensures ∙ c.if-branch.false) c.in_ok-carries.ensures
    (made.1 ∙ ap (λ cs. with_held_places tree (take made.0 cs)) c.as_slice-2.ensures.value)
    (c.drop_places.ensures ∙ ap (without_held_places c.make_places.new.self) c.as_slice-then-is_err.ensures.value)

pub returns-clause-ok : goal.returns-clause-ok
returns-clause-ok c =
    let tree = c.args.self.now in
    let from = c.args.from.now in
    let to = c.args.to.now in
    let made = ok_fact c.make_places.result c.if-is_err.ensures.value c.make_places.ensures.ok in
    let all = c.in_ok-carries.ensures in
    let deep : too_deep tree from to ≡ false = sym (c.is_too_deep.ensures ∙ ap (list_any ends_deep) (c.as_slice.ensures.value ∙ all) ∙ deep_is tree from to) ∙ c.if-is_too_deep.false in
    all_carried tree c.carry_all.new.self from to c.requires.there c.requires.apart (sym c.in_ok-has_below.ensures ∙ c.if-branch.false) deep
    (c.carry_all.ensures ∙ (λ i. carried_all ((made ∙ ap (with_held_places tree) (c.as_slice-2.ensures.value ∙ all)) i) ((c.as_slice-3.ensures.value ∙ all) i)))
