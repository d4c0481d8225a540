use Rattle.std.proofs.Common.{◌≡◌, ◌∙◌, List, ℕ, take, sym, ap}
use Rattle.std.proofs.lemmas.List.{take-map}
use Rattle.fx_item.specs.Item.{PlainItem, items_of}
use Rattle.fx_item.specs.declared.item.Item.{Item}
use Rattle.fx_record.specs.Txns.{txns_of}
use Rattle.fx_found.proofs.finding.first_txns.Goals as goal

pub returns : goal.returns
returns c =
    let view : ℕ × List Item → ℕ × List PlainItem = λ t. (t.0, items_of t.1) in
    let moved : txns_of (take c.args.count c.args.txns) ≡ take c.args.count (txns_of c.args.txns) = sym (take-map view c.args.count c.args.txns) in
    ap txns_of (c.new.ensures ∙ c.truncate.ensures.items ∙ ap (take c.args.count) c.into_vec-txns.ensures) ∙ moved
