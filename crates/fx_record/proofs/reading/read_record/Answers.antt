use Rattle.std.proofs.Common.{◌∙◌, take, ap, arith}
use Rattle.fx_item.proofs.Fields.{IsBytes}
use Rattle.fx_record.specs.Record.{plain_record}
use Rattle.fx_record.proofs.Steps.{found_whole}
use Rattle.fx_record.proofs.reading.read_record.Goals as goal

pub returns-clause-found : goal.returns-clause-found
returns-clause-found c =
    let bytes = c.args.bytes.now in
    let fits : IsBytes bytes = λ i. omega (arith, c.type_inv.bytes i) in
    found_whole bytes c.split_at-2.result.0.now c.read_u32-len.result (plain_record c.in_ok-record.record) fits
    (omega (arith, c.if-rest-len.false, c.split_at.ensures.back_len))
    c.read_u32-len.ensures
    (c.split_at-2.ensures.front ∙ ap (take c.read_u32-len.result) c.split_at.ensures.back)
    c.in_ok-record.ensures
