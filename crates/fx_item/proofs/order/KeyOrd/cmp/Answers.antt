use Rattle.std.proofs.Common.{◌≡◌, false, sym, ap, ◌∙◌}
use Rattle.std.specs.Ordering.{ordering_then, is_ne}
use Rattle.fx_item.specs.Item.{PlainKey, key_of}
use Rattle.fx_item.specs.Order.{key_cmp}
use Rattle.fx_item.specs.Place.{Place, bound_of, place_cmp, begins, ends}
use Rattle.fx_item.proofs.KeyPlaces.{by_places, second_tells}
use Rattle.fx_item.proofs.order.KeyOrd.cmp.Goals as goal

pub returns : goal.returns
returns c =
    let j : PlainKey = key_of c.args.self.now in
    let k : PlainKey = key_of c.args.other.now in
    let at_begin : c.compare-begins.result ≡ place_cmp (begins j) (begins k) =
    c.compare-begins.ensures ∙ ap (λ (p : Place). place_cmp p (bound_of c.begins-2.result)) c.begins.ensures
    ∙ ap (λ (p : Place). place_cmp (begins j) p) c.begins-2.ensures in
    let at_end : c.compare.result ≡ place_cmp (ends j) (ends k) =
    c.compare.ensures ∙ ap (λ (p : Place). place_cmp p (bound_of c.ends-2.result)) c.ends.ensures
    ∙ ap (λ (p : Place). place_cmp (ends j) p) c.ends-2.ensures in
    let equal : is_ne c.compare-begins.result ≡ false = sym c.is_ne.ensures ∙ c.if-is_ne.false in
    second_tells c.compare-begins.result c.compare.result (key_cmp j k)
    (ap (λ r. ordering_then r c.compare.result) at_begin ∙ ap (λ r. ordering_then (place_cmp (begins j) (begins k)) r) at_end ∙ by_places j k) equal
