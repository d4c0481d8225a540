use Rattle.std.proofs.Common.{sym, ap, subst, ◌∙◌}
use Rattle.std.specs.FinMap as finite
use Rattle.fx_parts.specs.Live.{MakesNames}
use Rattle.fx_parts.specs.Parts.{SharedState, live_now}
use Rattle.fx_parts.specs.Sound.{IsSharedSound}
use Rattle.fx_parts.specs.Happening.{StateGoesOn}
use Rattle.fx_parts.proofs.Events.{event_sound}
use Rattle.fx_parts.proofs.Frames.{event_goes_on, event_items, event_others}
use Rattle.fx_numbers.specs.State.{shared_of}
use Rattle.fx_numbers.proofs.laws.step_laws.Goals as goal

pub returns-clause-sound : goal.returns-clause-sound
returns-clause-sound c = λ tree old new event sound step. subst (IsSharedSound MakesNames) (sym (step.does tree)) (event_sound (shared_of tree old) sound event (step.may tree))

pub returns-clause-commit : goal.returns-clause-commit
returns-clause-commit c = λ tree old new event sound may does. subst (IsSharedSound MakesNames) (sym (does tree)) (event_sound (shared_of tree old) sound event may)

pub returns-clause-others : goal.returns-clause-others
returns-clause-others c = λ old new event who does ne. ap (λ (z : SharedState). finite.get z.parts who) (does finite.empty) ∙ event_others (shared_of finite.empty old) who event ne

pub returns-clause-goes_on : goal.returns-clause-goes_on
returns-clause-goes_on c = λ tree old new event does. subst (StateGoesOn (shared_of tree old)) (sym (does tree)) (event_goes_on (shared_of tree old) event)

pub returns-clause-items : goal.returns-clause-items
returns-clause-items c = λ old new event step none point. ap (λ (z : SharedState). live_now z point) (step.does finite.empty) ∙ event_items MakesNames (shared_of finite.empty old) event (step.may finite.empty) none point
