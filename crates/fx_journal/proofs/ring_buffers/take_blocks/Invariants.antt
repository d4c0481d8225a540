use Rattle.std.proofs.Common.{◌≤◌, deque_capacity}
use Rattle.fx_journal.specs.Buffers.{TookBuffers}
use Rattle.fx_journal.proofs.ring_buffers.take_blocks.Given as goal

abbrev pub invariant-loop : goal.invariant-loop
invariant-loop l =
    TookBuffers l.fn.buffers.items l.buffers.items l.fn.pool l.pool l.counter
    × (deque_capacity l.fn.buffers ≤ deque_capacity l.buffers)
