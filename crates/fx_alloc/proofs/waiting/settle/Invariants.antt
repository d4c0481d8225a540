use Rattle.std.proofs.Common.{◌≡◌, ◌+◌, ◌<◌, All, length}
use Rattle.std.specs.VecDeque.{deque_capacity}
use Rattle.fx_alloc.specs.declared.uses.Use.TheVariants.{Free}
use Rattle.fx_alloc.specs.Uses.{put_all}
use Rattle.fx_alloc.specs.Space.{settled_blocks, left_waiting}
use Rattle.fx_alloc.specs.Inside.{waiting_blocks}
use Rattle.fx_alloc.proofs.waiting.settle.Given as goal

abbrev pub invariant-loop-block : goal.invariant-loop-block
invariant-loop-block l = record {
  same : put_all Free (settled_blocks l.number l.waiting.items) l.uses ≡ put_all Free (settled_blocks l.number l.initial.waiting.items) l.initial.uses;
  left : left_waiting l.number l.waiting.items ≡ left_waiting l.number l.initial.waiting.items;
  below : All (λ b. b < length l.initial.uses) (waiting_blocks l.waiting.items);
  counted : l.count + length (settled_blocks l.number l.waiting.items) ≡ length (settled_blocks l.number l.initial.waiting.items);
  capacity : deque_capacity l.waiting ≡ deque_capacity l.initial.waiting;
}

abbrev pub decreases-loop-block : goal.decreases-loop-block
decreases-loop-block l = length (settled_blocks l.number l.waiting.items)
