use Rattle.std.proofs.Common.{◌∙◌, sym, refl, arith}
use Rattle.fx_record.specs.Record.{plain_record}
use Rattle.fx_record.proofs.Moves.{wrong_number, some_bytes}
use Rattle.fx_record.proofs.txns.read_next.Goals as goal

pub returns-then-not-may_come : goal.returns-then-not-may_come
returns-then-not-may_come c =
    let found = c.in-Ok.found in
    (refl, wrong_number c.args.base c.args.progress.now.last c.args.bytes.now (plain_record found.0) found.1 c.in-Ok.ensures.found.0 c.in-Ok.ensures.found.2 (sym c.may_come.ensures ∙ c.if-not-may_come.true))

pub put-requires-clause-room : goal.put-requires-clause-room
put-requires-clause-room c =
    omega (arith, c.requires.room, some_bytes c.args.bytes.now c.in-Ok.found.1 (plain_record c.in-Ok.found.0) c.in-Ok.ensures.found.2)
