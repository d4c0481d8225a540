use Rattle.std.proofs.Common.{ap, set}
use Rattle.fx_uses.specs.Uses.{Drawn, wanted}
use Rattle.fx_uses.proofs.CellsKept.{held_use, held_stage, held_commit, held_rollback, held_flushed, held_failed_flush, held_settled, held_written}
use Rattle.fx_uses.proofs.laws.cells_over_events.Goals as goal

pub returns-clause-draw : goal.returns-clause-draw
returns-clause-draw c sum s r who at h = held_use sum s r at (Drawn who) h tt (λ o. o)

pub returns-clause-stage : goal.returns-clause-stage
returns-clause-stage c = held_stage

pub returns-clause-commit : goal.returns-clause-commit
returns-clause-commit c = held_commit

pub returns-clause-rollback : goal.returns-clause-rollback
returns-clause-rollback c = held_rollback

pub returns-clause-flush : goal.returns-clause-flush
returns-clause-flush c = held_flushed

pub returns-clause-failed_flush : goal.returns-clause-failed_flush
returns-clause-failed_flush c = held_failed_flush

pub returns-clause-settle : goal.returns-clause-settle
returns-clause-settle c = held_settled

pub returns-clause-system : goal.returns-clause-system
returns-clause-system c sum s r at put ok held system h = held_written sum s r at put ok (set r.contents at held) (ap wanted system) h
