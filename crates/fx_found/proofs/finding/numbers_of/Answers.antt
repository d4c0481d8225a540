use Rattle.std.proofs.Common.{◌≡◌, ◌∙◌, ◌^◌, ◌-◌, ◌++◌, ℕ, List, min, sym, ap, arith}
use Rattle.std.proofs.lemmas.List.Sums.{fold-append}
use Rattle.fx_item.specs.Item.{PlainItem}
use Rattle.fx_item.specs.Look.{next_id, next_id_after, next_store, next_store_after}
use Rattle.fx_record.specs.Txns.{txns_of}
use Rattle.fx_super.specs.Super.{fields_of}
use Rattle.fx_found.specs.Image.{lists_of_layers, lists_of_txns}
use Rattle.fx_found.proofs.finding.numbers_of.Goals as goal

pub returns : goal.returns
returns c =
    let f = fields_of c.args.sup.now in
    let a : List (List PlainItem) = lists_of_layers c.args.objects.now in
    let b : List (List PlainItem) = lists_of_layers c.args.allocs.now in
    let t : List (List PlainItem) = lists_of_txns (txns_of c.args.txns.now) in
    let ids = c.past_txns-next.ensures.id (next_id_after (next_id_after f.next_id a) b) (c.past_layers-next-2.ensures.id (next_id_after f.next_id a) (c.past_layers-next.ensures.id f.next_id (omega (arith, c.requires.next_id_most)))) in
    let stores = c.past_txns-next.ensures.store (next_store_after (next_store_after f.next_store a) b) (c.past_layers-next-2.ensures.store (next_store_after f.next_store a) (c.past_layers-next.ensures.store f.next_store (omega (arith, c.requires.next_store_most)))) in
    let id_is : next_id_after (next_id_after (next_id_after f.next_id a) b) t ≡ next_id_after f.next_id (a ++ b ++ t) =
    ap (λ (n : ℕ). next_id_after n t) (sym (fold-append next_id f.next_id a b)) ∙ sym (fold-append next_id f.next_id (a ++ b) t) in
    let store_is : next_store_after (next_store_after (next_store_after f.next_store a) b) t ≡ next_store_after f.next_store (a ++ b ++ t) =
    ap (λ (n : ℕ). next_store_after n t) (sym (fold-append next_store f.next_store a b)) ∙ sym (fold-append next_store f.next_store (a ++ b) t) in
    let id_end : c.past_txns-next.result.id ≡ min (next_id_after f.next_id (a ++ b ++ t)) (2 ^ 64 - 1) = ids ∙ ap (λ (n : ℕ). min n (2 ^ 64 - 1)) id_is in
    let store_end : c.past_txns-next.result.store ≡ min (next_store_after f.next_store (a ++ b ++ t)) (2 ^ 32 - 1) = stores ∙ ap (λ (n : ℕ). min n (2 ^ 32 - 1)) store_is in
    λ i. record {
      generation = c.args.sup.now.generation;
      sequence = c.args.sup.now.sequence;
      base = c.args.sup.now.base;
      kept = c.args.kept;
      next_id = id_end i;
      next_store = store_end i;
    }
