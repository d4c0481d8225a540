use Rattle.std.proofs.Common.{◌≡◌, ◌∙◌, ◌+◌, ℕ, List, sym, ap, length, arith}
use Rattle.fx_item.specs.Item.{items_of}
use Rattle.fx_item.specs.declared.item.Item.{Item}
use Rattle.fx_record.specs.Record.{items_bytes, record_bytes, plain_record}
use Rattle.fx_record.specs.declared.record.Record.{Record}
use Rattle.fx_record.specs.declared.record.Record.TheVariants as records
use Rattle.fx_record.proofs.Steps.{transaction_text, discard_text}
use Rattle.fx_record.proofs.writing.length.Goals as goal

long : (r : Record) (number : ℕ) (items : List Item) → r ≡ (let t : Record = records.Txn number items in t) → length (record_bytes (plain_record r)) ≡ 17 + length (items_bytes (items_of items))
long r number items e = ap (λ (t : Record). length (record_bytes (plain_record t))) e ∙ transaction_text number (items_of items)

pub items_len-requires-clause-short : goal.items_len-requires-clause-short
items_len-requires-clause-short c =
    omega (arith, c.requires.short, long c.args.rec.now c.in-Txn.number c.in-Txn.items c.in-Txn.is, ap (λ (w : List Item). length (items_bytes (items_of w))) c.as_slice.ensures)

pub overflow_add-result : goal.overflow_add-result
overflow_add-result c =
    omega (arith, c.requires.short, c.items_len.ensures, long c.args.rec.now c.in-Txn.number c.in-Txn.items c.in-Txn.is, ap (λ (w : List Item). length (items_bytes (items_of w))) c.as_slice.ensures)

pub overflow_cast-result : goal.overflow_cast-result
overflow_cast-result c =
    omega (arith, c.requires.short, c.items_len.ensures, long c.args.rec.now c.in-Txn.number c.in-Txn.items c.in-Txn.is, ap (λ (w : List Item). length (items_bytes (items_of w))) c.as_slice.ensures)

pub returns-in-Txn : goal.returns-in-Txn
returns-in-Txn c =
    omega (arith, c.items_len.ensures, long c.args.rec.now c.in-Txn.number c.in-Txn.items c.in-Txn.is, ap (λ (w : List Item). length (items_bytes (items_of w))) c.as_slice.ensures)

pub returns-in-Discard : goal.returns-in-Discard
returns-in-Discard c =
    sym (ap (λ (t : Record). length (record_bytes (plain_record t))) c.in-Discard.is ∙ discard_text c.in-Discard.number)
