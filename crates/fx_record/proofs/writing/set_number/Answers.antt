use Rattle.std.proofs.Common.{List, ℕ, ◌++◌, take, drop, ap, ◌∙◌, arith}
use Rattle.byteorder.specs.Endian.{little_bytes}
use Rattle.fx_record.proofs.Parts.{transaction_long, renumbered}
use Rattle.fx_record.proofs.writing.set_number.Goals as goal

pub split_at_mut-rest-requires : goal.split_at_mut-rest-requires
split_at_mut-rest-requires c =
    omega (arith, transaction_long c.requires.number c.requires.items c.args.bytes.now c.requires.rest c.requires.parts)

pub write_u64-requires : goal.write_u64-requires
write_u64-requires c =
    omega (arith, transaction_long c.requires.number c.requires.items c.args.bytes.now c.requires.rest c.requires.parts, c.split_at_mut-rest.ensures.back_len)

pub returns : goal.returns
returns c = λ old items rest e.
    ap (λ (w : List ℕ). w ++ c.write_u64.new.buf) c.split_at_mut-rest.ensures.front
    ∙ ap (λ (w : List ℕ). take 5 c.args.bytes.now ++ w) (c.write_u64.ensures ∙ ap (λ (w : List ℕ). little_bytes 8 c.args.number ++ drop 8 w) c.split_at_mut-rest.ensures.back)
    ∙ renumbered old c.args.number items c.args.bytes.now rest e
