use Rattle.std.proofs.Common.{ℕ, ◌<◌}
use Rattle.std.specs.FinMap.{from_entries}
use Rattle.fx_turn.specs.Parts.{Has}
use Rattle.turn_bench.proofs.by_turn.Counter.new.Given as goal

abbrev pub invariant-loop-thread : goal.invariant-loop-thread
invariant-loop-thread l = (q : ℕ) → q < l.thread → Has (from_entries l.threads.items) q
