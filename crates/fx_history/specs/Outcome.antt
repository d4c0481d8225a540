-- How a line ended, and at which commit.
use Rattle.std.specs.Prelude.{ℕ}
use Rattle.fx_history.specs.declared.outcome.EndKind.{EndKind}

pub record LineEnd : Type 0 where
  pub at : ℕ
  pub kind : EndKind
