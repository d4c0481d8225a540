use Rattle.fx_parts.specs.Live.{MakesNames}
use Rattle.fx_parts.proofs.Events.{event_sound}
use Rattle.fx_parts.proofs.Frames.{event_goes_on, event_items, event_others}
use Rattle.fx_parts.proofs.Opening.{opened_sound}
use Rattle.fx_parts.proofs.laws.event_laws.Goals as goal

pub returns-clause-first : goal.returns-clause-first
returns-clause-first c = opened_sound MakesNames

pub returns-clause-sound : goal.returns-clause-sound
returns-clause-sound c = λ s event sound may. event_sound s sound event may

pub returns-clause-others : goal.returns-clause-others
returns-clause-others c = λ s event who ne. event_others s who event ne

pub returns-clause-goes_on : goal.returns-clause-goes_on
returns-clause-goes_on c = event_goes_on

pub returns-clause-items : goal.returns-clause-items
returns-clause-items c = event_items MakesNames
