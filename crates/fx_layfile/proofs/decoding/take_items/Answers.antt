use Rattle.std.proofs.Common.{rules, ◌≡◌, ◌==◌, ℕ, List, length, true, ap, subst, arith}
use Rattle.fx_item.specs.Item.{items_of}
use Rattle.fx_layfile.specs.Decoding.{AppendsItems}
use Rattle.fx_layfile.proofs.Decoded.{items_taken, items_stop, items_left}
use Rattle.fx_layfile.proofs.decoding.take_items.Goals as goal

pub returns-in-Err : goal.returns-in-Err
returns-in-Err c = items_stop c.in-Err.fault c.args.tree c.args.count c.loop-place._place c.args.bytes.now c.loop-place.rest.now (items_of c.args.items.now.items) (items_of c.loop-place.items.items) (items_of c.take_item.new.items.items)
    c.loop-place.invariant (search rules) c.in-Err.ensures

pub loop-place-preserved : goal.loop-place-preserved
loop-place-preserved c = items_taken c.args.tree c.loop-place._place c.args.bytes.now c.loop-place.rest.now c.in-Ok.left.now (items_of c.args.items.now.items) (items_of c.loop-place.items.items) (items_of c.take_item.new.items.items)
    c.loop-place.invariant c.in-Ok.ensures

pub returns-then-not-is_empty : goal.returns-then-not-is_empty
returns-then-not-is_empty c =
    let all : AppendsItems c.args.tree c.args.count c.args.bytes.now (items_of c.args.items.now.items) (items_of c.loop-place.items.items) c.loop-place.rest.now = subst (λ n. AppendsItems c.args.tree n c.args.bytes.now (items_of c.args.items.now.items) (items_of c.loop-place.items.items) c.loop-place.rest.now) (omega arith) c.loop-place.invariant in
    items_left c.args.tree c.args.count c.args.bytes.now c.loop-place.rest.now (items_of c.args.items.now.items) (items_of c.loop-place.items.items) all (λ none. let e : (length c.loop-place.rest.now == 0) ≡ true = ap (λ (r : List ℕ). length r == 0) none in cc)
