use Rattle.std.proofs.Common.{◌≡◌, ◌∷◌, ◌∙◌, ℕ, length, ap, subst, arith}
use Rattle.fx_item.proofs.Fields.{IsBytes, IsBytes-rest}
use Rattle.fx_record.proofs.Steps.{discard_body}
use Rattle.fx_record.proofs.reading.read_body.Goals as goal

pub returns-in-2 : goal.returns-in-2
returns-in-2 c =
    let rest = c.in-Some.rest.now in
    let parts = c.in-Some.ensures.cases.0 in
    let fits : IsBytes c.args.body.now = λ i. omega (arith, c.type_inv.body i) in
    let eight : length rest ≡ 8 = omega (arith, ap length parts) in (
      c.read_u64.type_inv,
      parts ∙ ap (λ (t : ℕ). t ∷ rest) c.in-2.is ∙ discard_body rest c.read_u64.result (IsBytes-rest c.in-Some.tag.now rest (subst IsBytes parts fits)) eight c.read_u64.ensures,
    )
