use Rattle.std.proofs.Common.{◌≡◌, ◌∙◌, ◌++◌, Some, None, Ok, Err, sym, ap, subst}
use Rattle.std.specs.Prelude.{All}
use Rattle.std.proofs.lemmas.List.Sums.{fold-append}
use Rattle.fx_item.specs.Item.{items_of}
use Rattle.fx_layfile.specs.Block.{IsOfTree}
use Rattle.fx_layfile.specs.Layer.{blocks_in, AreUnmarked, mark_block, mark_blocks, IsWholeLayer}
use Rattle.fx_layfile.specs.Reading.{DataFound, Gathers}
use Rattle.fx_layfile.specs.declared.layer.LayerFault.TheVariants as faults
use Rattle.fx_layfile.proofs.Walking.{tells_on, said_index, said_data, left_index, left_data, out_of_order_left, out_of_order, whole_layer, unmarked_both, ascending_apart}
use Rattle.fx_layfile.proofs.Verdicts.{gives_verdict}
use Rattle.fx_layfile.proofs.reading.read_layer.Goals as goal

pub returns-in-Err-clause-said : goal.returns-in-Err-clause-said
returns-in-Err-clause-said g c = λ image t. said_index c.in-Err.fault (blocks_in image) c.args.ring c.args.taken.now c.read_index.new.taken c.args.tree c.args.first (c.in-Err.ensures.found image t)

pub returns-in-Err-clause-left : goal.returns-in-Err-clause-left
returns-in-Err-clause-left g c = λ image t. left_index c.in-Err.fault (blocks_in image) c.args.ring c.args.taken.now c.read_index.new.taken c.args.tree c.args.first (c.in-Err.ensures.found image t)

pub returns-in-Err-clause-exact : goal.returns-in-Err-clause-exact
returns-in-Err-clause-exact g c = λ image verdict t is. gives_verdict (blocks_in image) c.args.ring c.args.taken.now c.args.tree c.args.first (Err c.in-Err.fault) verdict (returns-in-Err-clause-said g c image t) is

pub returns-in-Err-read_data-clause-said : goal.returns-in-Err-read_data-clause-said
returns-in-Err-read_data-clause-said g c = λ image t.
    let r = c.in-Ok.ensures in
    let e = c.in-Err-read_data.fault in
    let found = subst (λ w. DataFound (blocks_in image) c.args.ring c.read_index.new.taken c.read_data.new.taken c.args.tree w (Err e)) c.as_slice.ensures (c.in-Err-read_data.ensures.found image (tells_on _ _ image r.marked.read t)) in
    said_data (blocks_in image) c.args.ring c.args.taken.now c.read_index.new.taken c.args.tree c.args.first c.in-Ok.found.0 c.in-Ok.found.1 (r.found image t) r.places.0 r.places.2 r.places.1 e c.read_data.new.taken found

pub returns-in-Err-read_data-clause-left : goal.returns-in-Err-read_data-clause-left
returns-in-Err-read_data-clause-left g c = λ image t.
    let r = c.in-Ok.ensures in
    let e = c.in-Err-read_data.fault in
    let found = subst (λ w. DataFound (blocks_in image) c.args.ring c.read_index.new.taken c.read_data.new.taken c.args.tree w (Err e)) c.as_slice.ensures (c.in-Err-read_data.ensures.found image (tells_on _ _ image r.marked.read t)) in
    left_data (blocks_in image) c.args.ring c.args.taken.now c.read_index.new.taken c.args.tree c.args.first c.in-Ok.found.0 c.in-Ok.found.1 (r.found image t) r.places.0 r.places.2 r.places.1 e c.read_data.new.taken found

pub returns-in-Err-read_data-clause-exact : goal.returns-in-Err-read_data-clause-exact
returns-in-Err-read_data-clause-exact g c = λ image verdict t is. gives_verdict (blocks_in image) c.args.ring c.args.taken.now c.args.tree c.args.first (Err c.in-Err-read_data.fault) verdict (returns-in-Err-read_data-clause-said g c image t) is

pub returns-in-Some-clause-said : goal.returns-in-Some-clause-said
returns-in-Some-clause-said g c = λ image t.
    let r = c.in-Ok.ensures in
    let d = c.in-Ok-read_data.ensures in
    let names_are = c.as_slice.ensures in
    let some : c.in-Ok-read_data.found.1 ≡ Some c.in-Some.at = c.in-Some.is in
    let gathers = subst (λ w. Gathers (blocks_in image) c.args.tree w (items_of c.in-Ok-read_data.found.0) (Some c.in-Some.at)) names_are
    (subst (λ o. Gathers (blocks_in image) c.args.tree c.as_slice.result.now (items_of c.in-Ok-read_data.found.0) o) some (d.found image (tells_on _ _ image r.marked.read t))) in
    out_of_order (blocks_in image) c.args.ring c.args.taken.now c.read_index.new.taken c.args.tree c.args.first c.in-Ok.found.0 c.in-Ok.found.1 (r.found image t) r.places.0 r.places.2 r.places.1
    (items_of c.in-Ok-read_data.found.0) c.in-Some.at gathers (subst (AreUnmarked c.args.ring c.read_index.new.taken) names_are d.places.0)

pub returns-in-Some-clause-left : goal.returns-in-Some-clause-left
returns-in-Some-clause-left g c = λ image t.
    let r = c.in-Ok.ensures in
    let d = c.in-Ok-read_data.ensures in
    let names_are = c.as_slice.ensures in
    let some : c.in-Ok-read_data.found.1 ≡ Some c.in-Some.at = c.in-Some.is in
    let gathers = subst (λ w. Gathers (blocks_in image) c.args.tree w (items_of c.in-Ok-read_data.found.0) (Some c.in-Some.at)) names_are
    (subst (λ o. Gathers (blocks_in image) c.args.tree c.as_slice.result.now (items_of c.in-Ok-read_data.found.0) o) some (d.found image (tells_on _ _ image r.marked.read t))) in
    out_of_order_left (blocks_in image) c.args.ring c.args.taken.now c.read_index.new.taken c.args.tree c.args.first c.in-Ok.found.0 c.in-Ok.found.1 (r.found image t) r.places.0 r.places.2 r.places.1
    (items_of c.in-Ok-read_data.found.0) c.in-Some.at c.read_data.new.taken gathers (subst (AreUnmarked c.args.ring c.read_index.new.taken) names_are d.places.0)
    (d.places.1 ∙ ap (mark_blocks c.read_index.new.taken) names_are)

pub returns-in-Some-clause-exact : goal.returns-in-Some-clause-exact
returns-in-Some-clause-exact g c = λ image verdict t is. gives_verdict (blocks_in image) c.args.ring c.args.taken.now c.args.tree c.args.first (Err (faults.Order c.in-Some.at)) verdict (returns-in-Some-clause-said g c image t) is

pub of-requires : goal.of-requires
of-requires g c = ascending_apart c.args.tree (items_of c.in-Ok-read_data.found.0) c.in-Ok-read_data.ensures.order.0 (c.in-Ok-read_data.ensures.order.1 c.in-None.is)

pub returns-clause-said : goal.returns-clause-said
returns-clause-said g c = λ image t.
    let r = c.in-Ok.ensures in
    let d = c.in-Ok-read_data.ensures in
    let names_are = c.as_slice.ensures in
    let none : c.in-Ok-read_data.found.1 ≡ None = c.in-None.is in
    let gathers = subst (λ w. Gathers (blocks_in image) c.args.tree w (items_of c.in-Ok-read_data.found.0) None) names_are
    (subst (λ o. Gathers (blocks_in image) c.args.tree c.as_slice.result.now (items_of c.in-Ok-read_data.found.0) o) none (d.found image (tells_on _ _ image r.marked.read t))) in
    let whole = whole_layer (blocks_in image) c.args.ring c.args.taken.now c.read_index.new.taken c.args.tree c.args.first c.in-Ok.found.0 c.in-Ok.found.1 (r.found image t) r.places.0 r.places.2 r.places.1
    (items_of c.in-Ok-read_data.found.0) c.in-Ok-joined.blocks gathers (subst (AreUnmarked c.args.ring c.read_index.new.taken) names_are d.places.0) (d.order.1 none) c.in-Ok-joined.ensures in
    subst (λ w. IsWholeLayer (blocks_in image) c.args.ring c.args.taken.now c.args.tree c.args.first w c.of.result.items) (sym c.of.ensures.blocks)
    (subst (λ w. IsWholeLayer (blocks_in image) c.args.ring c.args.taken.now c.args.tree c.args.first c.in-Ok-joined.blocks w) (sym c.of.ensures.items) whole)

pub returns-clause-exact : goal.returns-clause-exact
returns-clause-exact g c = λ image verdict t is. gives_verdict (blocks_in image) c.args.ring c.args.taken.now c.args.tree c.args.first (Ok c.of.result) verdict (returns-clause-said g c image t) is

pub returns-clause-of_tree : goal.returns-clause-of_tree
returns-clause-of_tree g c = subst (All (IsOfTree c.args.tree)) (sym c.of.ensures.items) c.in-Ok-read_data.ensures.order.0

pub returns-clause-blocks : goal.returns-clause-blocks
returns-clause-blocks g c =
    let r = c.in-Ok.ensures in
    let d = c.in-Ok-read_data.ensures in
    let names_are = c.as_slice.ensures in
    let all : c.of.result.blocks ≡ c.in-Ok.found.0 ++ c.in-Ok.found.1 = c.of.ensures.blocks ∙ c.in-Ok-joined.ensures in
    let now : c.read_data.new.taken ≡ mark_blocks c.read_index.new.taken c.in-Ok.found.1 = d.places.1 ∙ ap (mark_blocks c.read_index.new.taken) names_are in
    let free = subst (AreUnmarked c.args.ring c.read_index.new.taken) names_are d.places.0 in (
      subst (AreUnmarked c.args.ring c.args.taken.now) (sym all) (unmarked_both c.args.ring c.args.taken.now c.in-Ok.found.0 c.in-Ok.found.1 r.places.0 (subst (λ w. AreUnmarked c.args.ring w c.in-Ok.found.1) r.places.1 free)),
      now ∙ ap (λ w. mark_blocks w c.in-Ok.found.1) r.places.1 ∙ sym (fold-append mark_block c.args.taken.now c.in-Ok.found.0 c.in-Ok.found.1) ∙ ap (mark_blocks c.args.taken.now) (sym all),
    )
