use Rattle.fx_parts.proofs.Looking.{looks_alike}
use Rattle.fx_parts.proofs.Planned.{does_plan}
use Rattle.fx_parts.proofs.Walking.{plan_kept}
use Rattle.fx_parts.proofs.laws.plan_laws.Goals as goal

pub returns-clause-kept : goal.returns-clause-kept
returns-clause-kept c = λ then_live now step r items keys plan. plan_kept then_live now step keys r items plan

pub returns-clause-does : goal.returns-clause-does
returns-clause-does c = λ live tree r step items makes id store unused plan. does_plan live tree makes r id store unused step items plan

pub returns-clause-looks : goal.returns-clause-looks
returns-clause-looks c = λ then_live now before after step path was is about agree. looks_alike then_live now before after was is step path about agree
