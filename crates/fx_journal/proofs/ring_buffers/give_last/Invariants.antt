use Rattle.std.proofs.Common.{◌≡◌, ◌-◌, length, take, deque_capacity}
use Rattle.fx_journal.specs.Buffers.{GaveBuffers}
use Rattle.fx_journal.proofs.ring_buffers.give_last.Given as goal

abbrev pub invariant-loop : goal.invariant-loop
invariant-loop l =
    GaveBuffers l.fn.buffers.items l.buffers.items l.fn.pool l.pool l.counter
    × (l.buffers.items ≡ take (length l.fn.buffers.items - l.counter) l.fn.buffers.items)
    × (deque_capacity l.buffers ≡ deque_capacity l.fn.buffers)
