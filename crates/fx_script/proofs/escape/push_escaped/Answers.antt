use Rattle.std.proofs.Common.{arith}
use Rattle.std.proofs.lemmas.List.Elements.{All-from_get_or, recursion_from_All}
use Rattle.fx_script.proofs.Utf8.{IsByte, AreBytes}
use Rattle.fx_script.proofs.Escapes.{escaped_by_set}
use Rattle.fx_script.proofs.escape.push_escaped.Goals as goal

pub returns-clause-ok : goal.returns-clause-ok
returns-clause-ok c =
    let bytes = c.args.bytes.now in
    let small : AreBytes bytes = recursion_from_All IsByte bytes (All-from_get_or IsByte bytes 0 (λ i within. omega (arith, c.type_inv.bytes i))) in
    rw (← escaped_by_set bytes small, ← c.percent_encode.ensures.text) c.append_to.ensures.ok
