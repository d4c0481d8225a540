use Rattle.fx_image.proofs.Replay.{replay_none, replay_prefix, replay_settle}
use Rattle.fx_image.proofs.ReplaySteps.{replay_step, step_are_items, step_ascends, step_numbers}
use Rattle.fx_image.proofs.replay_laws.Goals as goal

pub returns-clause-none : goal.returns-clause-none
returns-clause-none c = replay_none

pub returns-clause-step : goal.returns-clause-step
returns-clause-step c = replay_step

pub returns-clause-settled : goal.returns-clause-settled
returns-clause-settled c = replay_settle

pub returns-clause-keeps : goal.returns-clause-keeps
returns-clause-keeps c = replay_prefix

pub returns-clause-items : goal.returns-clause-items
returns-clause-items c = step_are_items

pub returns-clause-ascending : goal.returns-clause-ascending
returns-clause-ascending c = step_ascends

pub returns-clause-rise : goal.returns-clause-rise
returns-clause-rise c = step_numbers
