use Rattle.std.proofs.Common.{rules}
use Rattle.fx_super.proofs.Parts.{ReadSizes, sizes_made, sizes_read, same_sizes}
use Rattle.fx_super.proofs.decode.sizes_at.Goals as goal

pub returns-then-zero-ne0 : goal.returns-then-zero-ne0
returns-then-zero-ne0 c = λ blocks generation ring h.
    let found : ReadSizes c.args.bytes.now c.take_u32-blocks.result.0 c.take_u64-generation.result.0 c.take_u32-ring.result.0 c.take_u32-zero.result.0 = record {
      r1 = c.take_u32-blocks.result.1.now;
      r2 = c.take_u64-generation.result.1.now;
      r3 = c.take_u32-ring.result.1.now;
      r4 = c.take_u32-zero.result.1.now;
      blocks_fit = search rules;
      generation_fits = search rules;
      ring_fits = search rules;
      zero_fits = search rules;
      blocks_is = c.take_u32-blocks.ensures.read;
      generation_is = c.take_u64-generation.ensures.read;
      ring_is = c.take_u32-ring.ensures.read;
      zero_is = c.take_u32-zero.ensures.read;
      ends = search rules;
    } in
    c.if-zero-ne0.true (same_sizes c.args.bytes.now _ _ _ _ blocks generation ring 0 found (sizes_read c.args.bytes.now blocks generation ring h)).zero

pub returns : goal.returns
returns c =
    let found : ReadSizes c.args.bytes.now c.take_u32-blocks.result.0 c.take_u64-generation.result.0 c.take_u32-ring.result.0 c.take_u32-zero.result.0 = record {
      r1 = c.take_u32-blocks.result.1.now;
      r2 = c.take_u64-generation.result.1.now;
      r3 = c.take_u32-ring.result.1.now;
      r4 = c.take_u32-zero.result.1.now;
      blocks_fit = search rules;
      generation_fits = search rules;
      ring_fits = search rules;
      zero_fits = search rules;
      blocks_is = c.take_u32-blocks.ensures.read;
      generation_is = c.take_u64-generation.ensures.read;
      ring_is = c.take_u32-ring.ensures.read;
      zero_is = c.take_u32-zero.ensures.read;
      ends = search rules;
    } in
    sizes_made c.args.bytes.now _ _ _ _ found c.if-zero-ne0.false
