use Rattle.std.proofs.Common.{rules}
use Rattle.fx_super.proofs.Parts.{ReadCounters, counters_made, counters_read, same_counters}
use Rattle.fx_super.proofs.decode.counters_at.Goals as goal

pub returns-then-zero-ne0 : goal.returns-then-zero-ne0
returns-then-zero-ne0 c = λ s n b i t o a h.
    let found : ReadCounters c.args.bytes.now c.take_u64-sequence.result.0 c.take_u64-chain.result.0 c.take_u64-base.result.0 c.take_u64-next_id.result.0 c.take_u32-next_store.result.0 c.take_u32-objects.result.0 c.take_u32-allocs.result.0 c.take_u32-zero.result.0 = record {
      r1 = c.take_u64-sequence.result.1.now;
      r2 = c.take_u64-chain.result.1.now;
      r3 = c.take_u64-base.result.1.now;
      r4 = c.take_u64-next_id.result.1.now;
      r5 = c.take_u32-next_store.result.1.now;
      r6 = c.take_u32-objects.result.1.now;
      r7 = c.take_u32-allocs.result.1.now;
      r8 = c.take_u32-zero.result.1.now;
      sequence_fits = search rules;
      chain_fits = search rules;
      base_fits = search rules;
      next_id_fits = search rules;
      next_store_fits = search rules;
      objects_fit = search rules;
      allocs_fit = search rules;
      zero_fits = search rules;
      sequence_is = c.take_u64-sequence.ensures.read;
      chain_is = c.take_u64-chain.ensures.read;
      base_is = c.take_u64-base.ensures.read;
      next_id_is = c.take_u64-next_id.ensures.read;
      next_store_is = c.take_u32-next_store.ensures.read;
      objects_are = c.take_u32-objects.ensures.read;
      allocs_are = c.take_u32-allocs.ensures.read;
      zero_is = c.take_u32-zero.ensures.read;
      ends = search rules;
    } in
    c.if-zero-ne0.true (same_counters c.args.bytes.now _ _ _ _ _ _ _ _ s n b i t o a 0 found (counters_read c.args.bytes.now s n b i t o a h)).zero

pub returns : goal.returns
returns c =
    let found : ReadCounters c.args.bytes.now c.take_u64-sequence.result.0 c.take_u64-chain.result.0 c.take_u64-base.result.0 c.take_u64-next_id.result.0 c.take_u32-next_store.result.0 c.take_u32-objects.result.0 c.take_u32-allocs.result.0 c.take_u32-zero.result.0 = record {
      r1 = c.take_u64-sequence.result.1.now;
      r2 = c.take_u64-chain.result.1.now;
      r3 = c.take_u64-base.result.1.now;
      r4 = c.take_u64-next_id.result.1.now;
      r5 = c.take_u32-next_store.result.1.now;
      r6 = c.take_u32-objects.result.1.now;
      r7 = c.take_u32-allocs.result.1.now;
      r8 = c.take_u32-zero.result.1.now;
      sequence_fits = search rules;
      chain_fits = search rules;
      base_fits = search rules;
      next_id_fits = search rules;
      next_store_fits = search rules;
      objects_fit = search rules;
      allocs_fit = search rules;
      zero_fits = search rules;
      sequence_is = c.take_u64-sequence.ensures.read;
      chain_is = c.take_u64-chain.ensures.read;
      base_is = c.take_u64-base.ensures.read;
      next_id_is = c.take_u64-next_id.ensures.read;
      next_store_is = c.take_u32-next_store.ensures.read;
      objects_are = c.take_u32-objects.ensures.read;
      allocs_are = c.take_u32-allocs.ensures.read;
      zero_is = c.take_u32-zero.ensures.read;
      ends = search rules;
    } in
    counters_made c.args.bytes.now _ _ _ _ _ _ _ _ found c.if-zero-ne0.false
