use Rattle.std.proofs.Common.{set}
use Rattle.fx_uses.proofs.OtherParts.{others_draw, others_stage, others_commit, others_rollback, parts_flush, parts_settled, parts_system}
use Rattle.fx_uses.proofs.laws.parts_over_events.Goals as goal

pub returns-clause-draw : goal.returns-clause-draw
returns-clause-draw c s r who at free = others_draw who at s r free

pub returns-clause-stage : goal.returns-clause-stage
returns-clause-stage c s r who at sum put ok held drawn = others_stage s r who at sum put ok (set r.contents at held) drawn

pub returns-clause-commit : goal.returns-clause-commit
returns-clause-commit c = others_commit

pub returns-clause-rollback : goal.returns-clause-rollback
returns-clause-rollback c = others_rollback

pub returns-clause-flush : goal.returns-clause-flush
returns-clause-flush c s r ok = parts_flush s r ok r.contents

pub returns-clause-settle : goal.returns-clause-settle
returns-clause-settle c = parts_settled

pub returns-clause-system : goal.returns-clause-system
returns-clause-system c s r at put ok held = parts_system s r at put ok (set r.contents at held)
