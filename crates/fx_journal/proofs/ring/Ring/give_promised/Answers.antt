use Rattle.std.proofs.Common.{◌-◌, ◌≤◌, length, ap, arith}
use Rattle.std.proofs.lemmas.List.{length-take}
use Rattle.fx_journal.specs.Ring.{RingState}
use Rattle.fx_journal.proofs.Queues.{holds-kept, seen, bytes-fewer}
use Rattle.fx_journal.proofs.ring.Ring.give_promised.Goals as goal

pub returns-clause-queue : goal.returns-clause-queue
returns-clause-queue c =
    let i = c.self.inside in
    let ring : RingState = record { start = i.start; size = i.size; epoch = i.epoch; closed = i.closed; chain = i.chain; text = i.text.items; promised = i.promised; queued = i.queued; buffers = i.buffers.items } in
    let few : i.queued ≤ length i.buffers.items - c.args.count = omega (arith, c.self.invariant.0.buffers_len, c.requires.promised, ap (λ (r : RingState). r.promised) c.self.view_is) in
    let len : i.queued ≤ length c.give_last.new.buffers.items = omega (arith, few, ap length c.give_last.ensures.left, length-take (length i.buffers.items - c.args.count) i.buffers.items) in
    seen ring c.args.self.now _ c.args.pool.now c.give_last.new.pool c.self.view_is
    (holds-kept ring _ c.give_last.new.buffers.items c.args.pool.now c.give_last.new.pool len
    (λ k lt. bytes-fewer i.buffers.items c.give_last.new.buffers.items c.args.pool.now c.give_last.new.pool (length i.buffers.items - c.args.count) k c.give_last.ensures.gave.bytes c.give_last.ensures.left (omega arith)))
