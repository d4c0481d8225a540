use Rattle.std.proofs.Common.{◌≡◌}
use Rattle.fx_turn.proofs.tests.write_alone.Given as goal

abbrev pub invariant-loop-count : goal.invariant-loop-count
invariant-loop-count g l = (l.pass.turn ≡ l.initial.pass.turn) × (l.pass.shares ≡ l.initial.pass.shares) × (l.other.turn ≡ l.initial.other.turn) × (l.other.shares ≡ l.initial.other.shares)
