use Rattle.std.proofs.Common.{◌≡◌}
use Rattle.turn_bench.proofs.by_turn.count_alone.Given as goal

abbrev pub invariant-loop : goal.invariant-loop
invariant-loop g l = (l.pass.turn ≡ l.initial.pass.turn) × (l.pass.shares ≡ l.initial.pass.shares)
