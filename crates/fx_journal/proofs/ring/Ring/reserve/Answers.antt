use Rattle.std.proofs.Common.{◌≤◌, length, arith}
use Rattle.fx_journal.specs.Ring.{RingState}
use Rattle.fx_journal.proofs.Queues.{holds-kept, seen, bytes-more}
use Rattle.fx_journal.proofs.ring.Ring.reserve.Goals as goal

pub returns-clause-queue : goal.returns-clause-queue
returns-clause-queue c =
    let i = c.self.inside in
    let ring : RingState = record { start = i.start; size = i.size; epoch = i.epoch; closed = i.closed; chain = i.chain; text = i.text.items; promised = i.promised; queued = i.queued; buffers = i.buffers.items } in
    let few : i.queued ≤ length i.buffers.items = omega (arith, c.self.invariant.0.buffers_len) in
    seen ring c.args.self.now _ c.args.pool.now c.take_blocks.new.pool c.self.view_is
    (holds-kept ring _ c.take_blocks.new.buffers.items c.args.pool.now c.take_blocks.new.pool (omega (arith, few, c.take_blocks.ensures.took.len))
    (λ k lt. bytes-more i.buffers.items c.take_blocks.new.buffers.items c.args.pool.now c.take_blocks.new.pool k c.take_blocks.ensures.took.bytes c.take_blocks.ensures.took.kept (omega (arith, lt, few))))
