use Rattle.std.proofs.Common.{◌≡◌, ◌∷◌, ◌∙◌, length, drop, ap, arith}
use Rattle.byteorder.specs.Endian.{little_number}
use Rattle.byteorder.specs.Numbers.{little_from-lt}
use Rattle.fx_item.specs.Item.{items_of}
use Rattle.fx_item.proofs.Fields.{IsBytes}
use Rattle.fx_record.specs.Record.{TransactionRecord, body_bytes}
use Rattle.fx_record.proofs.Steps.{transaction_body}
use Rattle.fx_record.proofs.reading.read_transaction.Goals as goal

pub returns : goal.returns
returns c =
    let bytes = c.args.bytes.now in
    let fits : IsBytes bytes = λ i. omega (arith, c.type_inv.bytes i) in
    let number = c.read_u64-number.result in
    let items = items_of c.in_ok-items.items in
    let same : 1 ∷ bytes ≡ body_bytes (TransactionRecord number items) =
    transaction_body bytes c.split_at-2.result.1.now number c.read_u32-count.result items fits c.requires.room c.read_u64-number.ensures
    (c.read_u32-count.ensures ∙ ap (little_number 4) c.split_at.ensures.back)
    (c.split_at-2.ensures.back ∙ ap (drop 4) c.split_at.ensures.back)
    c.in_ok-items.ensures in
    ((omega (arith, c.read_u64-number.ensures, little_from-lt 0 8 bytes fits), c.in_ok-items.ensures.are_items, omega (arith, c.requires.short, ap length same)), same)
