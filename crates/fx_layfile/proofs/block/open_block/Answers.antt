use Rattle.std.proofs.Common.{rules, ℕ, ◌++◌, sym, ap, ◌∙◌, arith}
use Rattle.byteorder.specs.Endian.{little_bytes, little_number}
use Rattle.fx_sum.specs.Checksum.{fletch}
use Rattle.fx_layfile.proofs.Framed.{ReadNumbers, has_sum, frame_sum, frame_made, frame_first}
use Rattle.fx_layfile.proofs.block.open_block.Goals as goal

pub returns-then-read_u64-fletch : goal.returns-then-read_u64-fletch
returns-then-read_u64-fletch c = λ a b d raw h.
    let parts = c.split_at.ensures in
    c.if-read_u64-fletch.true (c.read_u64.ensures ∙ ap (little_number 8) parts.back ∙ frame_sum c.args.block.now c.args.magic a b d raw h ∙ ap (fletch 0) (sym parts.front) ∙ sym c.fletch.ensures)

pub returns-then-first-magic : goal.returns-then-first-magic
returns-then-first-magic c = λ a b d raw h.
    c.if-first-magic.true (frame_first c.args.block.now c.split_at.result.0.now c.take_number-first.result.1.now c.args.magic a b d c.take_number-first.result.0 raw (search rules) (search rules) c.split_at.ensures.front c.take_number-first.ensures.read h)

pub returns : goal.returns
returns c =
    let parts = c.split_at.ensures in
    let sum = has_sum c.args.block.now c.split_at.result.0.now c.split_at.result.1.now c.read_u64.result parts.front parts.back c.read_u64.ensures (c.if-read_u64-fletch.false ∙ c.fletch.ensures) in
    let read : ReadNumbers c.split_at.result.0.now c.args.magic c.take_number-a.result.0 c.take_number-b.result.0 c.take_number-c.result.0 c.take_number-c.result.1.now = record {
      r1 = c.take_number-first.result.1.now;
      r2 = c.take_number-a.result.1.now;
      r3 = c.take_number-b.result.1.now;
      first_is = c.take_number-first.ensures.read ∙ ap (λ (m : ℕ). little_bytes 4 m ++ c.take_number-first.result.1.now) c.if-first-magic.false;
      a_is = c.take_number-a.ensures.read;
      b_is = c.take_number-b.ensures.read;
      c_is = c.take_number-c.ensures.read;
    } in
    frame_made c.args.block.now c.split_at.result.0.now c.args.magic c.take_number-a.result.0 c.take_number-b.result.0 c.take_number-c.result.0 c.take_number-c.result.1.now
    c.told-block (λ i. omega (arith, c.fits-block i)) sum parts.front read (search rules) (search rules) (search rules) (search rules)
