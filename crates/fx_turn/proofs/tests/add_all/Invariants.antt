use Rattle.std.proofs.Common.{◌≡◌}
use mathlib.Core.List.{IsPrefix}
use Rattle.fx_turn.proofs.tests.add_all.Given as goal

abbrev pub invariant-loop-count : goal.invariant-loop-count
invariant-loop-count g l = (l.pass.turn ≡ l.initial.pass.turn) × (l.pass.shares ≡ l.initial.pass.shares) × IsPrefix l.initial.pass.seen l.pass.seen
