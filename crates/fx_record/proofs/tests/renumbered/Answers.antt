use Rattle.std.proofs.Common.{List, ℕ, ◌++◌, [], sym, ap, ◌∙◌, append-nil}
use Rattle.fx_item.specs.Item.{items_of}
use Rattle.fx_record.specs.Record.{TransactionRecord, plain_record, record_bytes}
use Rattle.fx_record.specs.declared.record.Record.{Record}
use Rattle.fx_record.proofs.tests.renumbered.Goals as goal

pub set_number-requires : goal.set_number-requires
set_number-requires c = record {
  number = c.in-Txn.number;
  items = items_of c.in-Txn.items;
  rest = [];
  parts = c.as_mut_slice.ensures.value
      ∙ c.in_ok-encode_record.ensures.ok
      ∙ ap (λ (w : List ℕ). w ++ record_bytes (plain_record c.args.rec.now)) c.new-bytes.ensures.items
      ∙ ap (λ (r : Record). record_bytes (plain_record r)) c.in-Txn.is
      ∙ sym (append-nil (record_bytes (TransactionRecord c.in-Txn.number (items_of c.in-Txn.items))));
}
