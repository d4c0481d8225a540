use Rattle.std.proofs.Common.{◌+◌, ◌-◌, ◌≤◌, ap, arith}
use Rattle.fx_journal.specs.Ring.{RingState}
use Rattle.fx_journal.proofs.Queues.{holds-first, seen-freed}
use Rattle.fx_journal.proofs.ring.Ring.free_before.Goals as goal

pub returns-clause-queue : goal.returns-clause-queue
returns-clause-queue c =
    let i = c.self.inside in
    let ring : RingState = record { start = i.start; size = i.size; epoch = i.epoch; closed = i.closed; chain = i.chain; text = i.text.items; promised = i.promised; queued = i.queued; buffers = i.buffers.items } in
    let low : i.start.sequence ≤ c.args.sequence = omega (arith, c.requires.low, ap (λ (r : RingState). r.start.sequence) c.self.view_is) in
    let high : c.args.sequence ≤ i.start.sequence + i.closed = omega (arith, c.requires.high, ap (λ (r : RingState). r.start.sequence) c.self.view_is, ap (λ (r : RingState). r.closed) c.self.view_is) in
    seen-freed ring c.args.self.now _ c.args.pool.now c.give_first.new.pool c.args.sequence c.saturating_sub-leaving.result c.self.view_is c.saturating_sub-leaving.ensures
    (holds-first ring _ _ c.saturating_sub-leaving.result c.give_first.new.buffers.items c.args.pool.now c.give_first.new.pool c.self.invariant.0 (omega arith) (omega (arith, c.saturating_sub-leaving.ensures)) c.give_first.ensures.left c.give_first.ensures.gave.bytes)
