use Rattle.std.proofs.Common.{◌≡◌, ℕ, ◌-◌, List, length, drop, Some, Ok, Err, sym, ap, ◌∙◌, arith}
use Rattle.std.proofs.lemmas.Result.{err_from_is_err_and}
use Rattle.fx_item.specs.Item.{item_of}
use Rattle.fx_item.specs.Reading.{item_at}
use Rattle.fx_item.proofs.Fields.{IsBytes}
use Rattle.fx_item.proofs.Spelled.{found, only, rest_is}
use Rattle.fx_item.proofs.reading.decode.Goals as goal

pub returns-in_err-item-clause-only : goal.returns-in_err-item-clause-only
returns-in_err-item-clause-only c = λ x rest h parts.
    let p = err_from_is_err_and c.from_residual.result c.from_residual.ensures.1 in
    rw (p.1, p.2) (only (Err c.in_err-item.field-0.0) c.args.bytes.now x rest tt c.in_err-item.ensures h parts)

pub overflow_sub-result : goal.overflow_sub-result
overflow_sub-result c =
    (rest_is c.args.bytes.now (item_of c.in_ok-item.item) c.in_ok-item.rest.now (λ i. omega (arith, c.type_inv.bytes i)) c.in_ok-item.ensures).0

pub returns-clause-found : goal.returns-clause-found
returns-clause-found c =
    let fits : IsBytes c.args.bytes.now = λ i. omega (arith, c.type_inv.bytes i) in
    let r = rest_is c.args.bytes.now (item_of c.in_ok-item.item) c.in_ok-item.rest.now fits c.in_ok-item.ensures in
    let read : item_at c.args.bytes.now ≡ Some (item_of c.in_ok-item.item, drop (length c.args.bytes.now - length c.in_ok-item.rest.now) c.args.bytes.now) =
    c.in_ok-item.ensures ∙ ap (λ (w : List ℕ). Some (item_of c.in_ok-item.item, w)) (sym r.1) in
    found (Ok (c.in_ok-item.item, length c.args.bytes.now - length c.in_ok-item.rest.now)) c.args.bytes.now fits (omega arith) read

pub returns-clause-only : goal.returns-clause-only
returns-clause-only c = λ x rest h parts.
    let fits : IsBytes c.args.bytes.now = λ i. omega (arith, c.type_inv.bytes i) in
    let r = rest_is c.args.bytes.now (item_of c.in_ok-item.item) c.in_ok-item.rest.now fits c.in_ok-item.ensures in
    let read : item_at c.args.bytes.now ≡ Some (item_of c.in_ok-item.item, drop (length c.args.bytes.now - length c.in_ok-item.rest.now) c.args.bytes.now) =
    c.in_ok-item.ensures ∙ ap (λ (w : List ℕ). Some (item_of c.in_ok-item.item, w)) (sym r.1) in
    only (Ok (c.in_ok-item.item, length c.args.bytes.now - length c.in_ok-item.rest.now)) c.args.bytes.now x rest (omega arith) read h parts

pub returns-clause-exact : goal.returns-clause-exact
returns-clause-exact c =
    let fits : IsBytes c.args.bytes.now = λ i. omega (arith, c.type_inv.bytes i) in
    let r = rest_is c.args.bytes.now (item_of c.in_ok-item.item) c.in_ok-item.rest.now fits c.in_ok-item.ensures in
    c.in_ok-item.ensures ∙ ap (λ (w : List ℕ). Some (item_of c.in_ok-item.item, w)) (sym r.1)
