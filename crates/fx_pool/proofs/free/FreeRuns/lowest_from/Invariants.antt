use Rattle.std.proofs.Common.{◌≡◌, ◌≤◌, ◌<◌, ℕ, length}
use Rattle.fx_pool.specs.Indexed.{starts}
use Rattle.fx_pool.proofs.free.FreeRuns.lowest_from.Given as goal

abbrev pub invariant-loop-k : goal.invariant-loop-k
invariant-loop-k l = (j : ℕ) → l.order ≤ j → j < l.k → length (starts l.self-inside.lists.items j) ≡ 0
