use Rattle.std.proofs.Common.{◌≡◌, ℕ, ◌<◌, ◌^◌, sym, subst, arith}
use Rattle.fx_journal.specs.Ring.{blocks_out}
use Rattle.fx_journal.specs.Buffers.{TookBuffers}
use Rattle.fx_journal.proofs.Buffers.{took-none, took-more}
use Rattle.fx_journal.proofs.ring_buffers.take_blocks.Goals as goal

pub loop-init : goal.loop-init
loop-init c = (took-none c.args.buffers.now.items c.args.pool.now c.requires.buffers, omega arith)

pub take_block-requires : goal.take_block-requires
take_block-requires c = record {
  buffers = c.loop.invariant.0.buffers;
  room = omega (arith, c.requires.room, c.loop.invariant.0.len, c.loop.invariant.1, c.args.buffers.now.ok.0, c.loop.buffers.ok.0);
  blocks = subst (λ (k : ℕ). blocks_out c.loop.pool < 2 ^ k) (sym c.loop.invariant.0.order) (omega (arith, c.requires.blocks, c.loop.invariant.0.counted));
}

pub loop-preserved : goal.loop-preserved
loop-preserved c =
    let e = c.take_block.ensures in (
      took-more c.args.buffers.now.items c.loop.buffers.items c.take_block.new.buffers.items c.args.pool.now c.loop.pool c.take_block.new.pool c.loop.counter c.loop.invariant.0 e.took,
      omega (arith, c.loop.invariant.1, c.take_block.ensures.capacity),
    )

pub returns : goal.returns
returns c =
    let end : c.loop.counter ≡ c.args.count = omega arith in
    record {
      took = subst (λ (k : ℕ). TookBuffers c.args.buffers.now.items c.loop.buffers.items c.args.pool.now c.loop.pool k) end c.loop.invariant.0;
      capacity = c.loop.invariant.1;
    }
