use Rattle.std.proofs.Common.{◌≡◌, ◌<◌, ◌-◌, ◌^◌, Some, None, length, set, get_or}
use Rattle.fx_pool.specs.Region.{IsDivided, IsBuddy}
use Rattle.fx_pool.proofs.pool.Pool.give.Given as goal

abbrev pub invariant-loop-self : goal.invariant-loop-self
invariant-loop-self l = record {
  order_same : l.self-inside.order ≡ l.initial.self-inside.order;
  out_same : l.self-inside.out ≡ l.initial.self-inside.out;
  bytes_same : l.self-inside.bytes ≡ l.initial.self-inside.bytes;
  free_len : length l.self-inside.free ≡ length l.initial.self-inside.free;
  below : l.run.start < length l.self-inside.out.items;
  none : get_or l.self-inside.out.items l.run.start None ≡ None;
  buddy : IsBuddy l.run.start l.buddy l.run.order;
  divided : IsDivided (2 ^ l.self-inside.order) l.self-inside.free (set l.self-inside.out.items l.run.start (Some l.run.order));
}

abbrev pub decreases-loop-self : goal.decreases-loop-self
decreases-loop-self l = 13 - l.run.order
