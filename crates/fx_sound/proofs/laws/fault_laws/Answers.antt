use Rattle.fx_sound.proofs.First.{one_first}
use Rattle.fx_sound.proofs.Judged.{none_first, sound_if}
use Rattle.fx_sound.proofs.laws.fault_laws.Goals as goal

pub returns-clause-one : goal.returns-clause-one
returns-clause-one c = one_first

pub returns-clause-sound : goal.returns-clause-sound
returns-clause-sound c = sound_if

pub returns-clause-none : goal.returns-clause-none
returns-clause-none c = none_first
