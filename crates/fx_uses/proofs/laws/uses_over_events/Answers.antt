use Rattle.std.proofs.Common.{◌≡◌, sym, ◌∙◌, ap, refl}
use Rattle.fx_uses.specs.Uses.{Free, Drawn, System, since_of}
use Rattle.fx_uses.proofs.UsesKept.{used_use, used_stage, used_commit, used_rollback, used_flushed, used_settled}
use Rattle.fx_uses.proofs.laws.uses_over_events.Goals as goal

pub returns-clause-draw : goal.returns-clause-draw
returns-clause-draw c s who at h free = used_use s at (Drawn who) h (λ e. let q : Free ≡ System = sym free ∙ e in cc) (ap since_of free) refl

pub returns-clause-stage : goal.returns-clause-stage
returns-clause-stage c = used_stage

pub returns-clause-commit : goal.returns-clause-commit
returns-clause-commit c = used_commit

pub returns-clause-rollback : goal.returns-clause-rollback
returns-clause-rollback c = used_rollback

pub returns-clause-flush : goal.returns-clause-flush
returns-clause-flush c = used_flushed

pub returns-clause-settle : goal.returns-clause-settle
returns-clause-settle c = used_settled
