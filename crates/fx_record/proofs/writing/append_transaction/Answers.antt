use Rattle.std.proofs.Common.{arith}
use Rattle.std.proofs.lemmas.Result.{on_ok_weaker}
use Rattle.std.proofs.lemmas.List.{length-map}
use Rattle.fx_item.specs.Item.{item_of, items_of}
use Rattle.fx_record.proofs.Parts.{transaction_len, few_items}
use Rattle.fx_record.proofs.Steps.{transaction_written}
use Rattle.fx_record.proofs.writing.append_transaction.Goals as goal

pub items_len-body-requires-clause-short : goal.items_len-body-requires-clause-short
items_len-body-requires-clause-short c = omega (arith, c.requires.2, transaction_len c.args.number (items_of c.args.items.now))

pub overflow_add-body : goal.overflow_add-body
overflow_add-body c = omega (arith, c.requires.2, c.items_len-body.ensures, transaction_len c.args.number (items_of c.args.items.now))

pub overflow_add-body-2 : goal.overflow_add-body-2
overflow_add-body-2 c = omega (arith, c.requires.2, c.items_len-body.ensures, transaction_len c.args.number (items_of c.args.items.now))

pub overflow_cast-body : goal.overflow_cast-body
overflow_cast-body c = omega (arith, c.requires.2, c.items_len-body.ensures, transaction_len c.args.number (items_of c.args.items.now))

pub overflow_cast-items : goal.overflow_cast-items
overflow_cast-items c =
    omega (arith, few_items c.args.number (items_of c.args.items.now) c.requires.2, length-map c.args.items.now item_of)

pub returns-clause-ok : goal.returns-clause-ok
returns-clause-ok c =
    on_ok_weaker c.append_items.result
    (transaction_written c.args.into.now.items c.reserve.new.self.items c.extend_from_slice.new.self.items c.append_items.new.into.items c.fill_head.new.into c.args.number c.items_len-body.result c.args.items.now
    c.in_ok-reserve.ensures.items c.in_ok-extend_from_slice.ensures.items c.fill_head.ensures c.items_len-body.ensures)
    c.append_items.ensures.ok
