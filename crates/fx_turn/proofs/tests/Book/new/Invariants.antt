use Rattle.std.proofs.Common.{ℕ, ◌<◌}
use Rattle.std.specs.FinMap.{from_entries}
use Rattle.fx_turn.specs.Parts.{Has}
use Rattle.fx_turn.proofs.tests.Book.new.Given as goal

abbrev pub invariant-loop-writer : goal.invariant-loop-writer
invariant-loop-writer l = (q : ℕ) → q < l.writer → Has (from_entries l.writers.items) q
