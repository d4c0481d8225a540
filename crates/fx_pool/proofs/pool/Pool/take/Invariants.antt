use Rattle.std.proofs.Common.{◌≡◌, ◌≤◌, ◌^◌, Some, length, set}
use Rattle.fx_pool.specs.Region.{IsDivided}
use Rattle.fx_pool.proofs.pool.Pool.take.Given as goal

abbrev pub invariant-loop-rest : goal.invariant-loop-rest
invariant-loop-rest l = record {
  at_least : l.order ≤ l.rest;
  at_most : l.rest ≤ l.found;
  order_same : l.self-inside.order ≡ l.initial.self-inside.order;
  out_same : l.self-inside.out ≡ l.initial.self-inside.out;
  bytes_same : l.self-inside.bytes ≡ l.initial.self-inside.bytes;
  free_len : length l.self-inside.free ≡ length l.initial.self-inside.free;
  divided : IsDivided (2 ^ l.self-inside.order) l.self-inside.free (set l.self-inside.out.items l.start (Some l.rest));
}

abbrev pub decreases-loop-rest : goal.decreases-loop-rest
decreases-loop-rest l = l.rest
