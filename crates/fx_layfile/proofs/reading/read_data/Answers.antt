use Rattle.std.proofs.Common.{rules, ◌≡◌, ◌∙◌, ◌+◌, ℕ, suc, [], ◌∷◌, ◌++◌, take, drop, get_or, true, sym, ap, subst}
use Rattle.std.specs.Prelude.{All}
use Rattle.std.proofs.lemmas.List.{take_more}
use Rattle.std.proofs.lemmas.List.Elements.{All-append}
use Rattle.fx_base.proofs.Lists.{split_at}
use Rattle.fx_item.specs.Item.{items_of}
use Rattle.fx_item.specs.Order.{is_ascending}
use Rattle.fx_layfile.specs.Block.{IsOfTree}
use Rattle.fx_layfile.specs.Layer.{IsUnmarked, AreUnmarked, mark_blocks, blocks_in}
use Rattle.fx_layfile.specs.Reading.{Gathers, noted}
use Rattle.fx_layfile.proofs.Walking.{tells_on, reads_then, unmarked_more, marks_more, gathers_more, rises_more, data_stops, old_part}
use Rattle.fx_layfile.proofs.reading.read_data.Goals as goal

pub returns-in-Err-clause-found : goal.returns-in-Err-clause-found
returns-in-Err-clause-found g c = λ image t.
    let inv = c.loop-at.invariant in
    let names = c.args.names.now in
    let k = c.loop-at.at-index in
    data_stops c.in-Err.fault (blocks_in image) c.args.ring c.args.taken.now c.loop-at.taken c.read_items_at-read.new.taken c.args.tree (get_or names k 0) names (take k names) (drop (suc k) names) (items_of c.loop-at.items.items) (items_of c.read_items_at-read.new.items.items)
    c.loop-at.disorder (inv.gathers image t) (split_at names k 0 c.loop-at-test.true) inv.places inv.marks (c.in-Err.ensures.found image (tells_on _ _ image inv.marked.read t)) c.in-Err.ensures.tried

pub note_order-disorder-requires : goal.note_order-disorder-requires
note_order-disorder-requires g c = λ none.
    let more = c.in_default.ensures.good in
    ap is_ascending (old_part c.loop-at.items.items c.read_items_at-read.new.items.items c.as_slice.result.now more.0 c.len-from.result (search rules) c.as_slice.ensures.value more.1) ∙ c.loop-at.invariant.rises none

pub loop-at-preserved : goal.loop-at-preserved
loop-at-preserved g c =
    let inv = c.loop-at.invariant in
    let names = c.args.names.now in
    let k = c.loop-at.at-index in
    let at : ℕ = get_or names k 0 in
    let next : take (k + 1) names ≡ take k names ++ at ∷ [] = take_more names k 0 c.loop-at-test.true in
    let good = c.in_default.ensures.good in
    let claimed = c.in_default.ensures.claimed in
    let noted_is : c.note_order-disorder.result ≡ noted c.loop-at.disorder (is_ascending (items_of c.read_items_at-read.new.items.items)) at = c.note_order-disorder.ensures ∙ ap (λ w. noted c.loop-at.disorder (is_ascending (items_of w)) at) c.as_slice.ensures.value in
    record {
      places = subst (AreUnmarked c.args.ring c.args.taken.now) (sym next) (unmarked_more c.args.ring c.args.taken.now (take k names) at inv.places (subst (λ w. IsUnmarked c.args.ring w at) inv.marks claimed.0));
      marks = marks_more c.args.taken.now c.loop-at.taken c.read_items_at-read.new.taken (take k names) at inv.marks claimed.1 ∙ ap (mark_blocks c.args.taken.now) (sym next);
      good = subst (All (IsOfTree c.args.tree)) (sym good.1) (All-append (IsOfTree c.args.tree) (items_of c.loop-at.items.items) good.0 inv.good good.2);
      rises = λ e. rises_more c.loop-at.disorder (is_ascending (items_of c.read_items_at-read.new.items.items)) at (sym noted_is ∙ e);
      gathers = λ image t.
          let more = c.in_default.ensures.found image (tells_on _ _ image inv.marked.read t) in
          subst (λ o. Gathers (blocks_in image) c.args.tree (take (k + 1) names) (items_of c.read_items_at-read.new.items.items) o) (sym noted_is)
          (subst (λ w. Gathers (blocks_in image) c.args.tree w (items_of c.read_items_at-read.new.items.items) (noted c.loop-at.disorder (is_ascending (items_of c.read_items_at-read.new.items.items)) at)) (sym next)
          (gathers_more (blocks_in image) c.args.tree at (take k names) (items_of c.loop-at.items.items) (items_of c.read_items_at-read.new.items.items) more.0 c.loop-at.disorder (inv.gathers image t) inv.rises more.1 more.2));
      marked = reads_then _ _ _ _ _ _ true inv.marked c.in_default.ensures.marked;
    }
