use Rattle.std.proofs.Common.{arith}
use Rattle.fx_kept.proofs.WorkedRow.{row, torn, fails_at_3, kept_at_5}
use Rattle.fx_kept.proofs.laws.kept_past_failures.Goals as goal

pub returns : goal.returns
returns c = record { torn = (torn, row, 3, 5, omega arith, fails_at_3, kept_at_5) }
