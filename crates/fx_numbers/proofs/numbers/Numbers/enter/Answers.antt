use Rattle.std.proofs.Common.{sym, subst}
use Rattle.fx_numbers.specs.Slots.{PartMap}
use Rattle.fx_numbers.specs.Inner.{AreNumbers}
use Rattle.fx_numbers.proofs.Leaving.{enter_least, enter_step, entered_numbers, free_slot}
use Rattle.fx_numbers.proofs.numbers.Numbers.enter.Goals as goal

pub enter-requires : goal.enter-requires
enter-requires c = free_slot c.self.inside c.args.self.now c.self.view_is c.requires

pub invariant_of-self : goal.invariant_of-self
invariant_of-self c = subst (λ (m : PartMap). AreNumbers (record c.self.inside { parts = m })) (sym c.in_default.ensures.err) c.self.invariant

pub invariant_of-self-2 : goal.invariant_of-self-2
invariant_of-self-2 c = entered_numbers c.self.inside c.self.invariant c.enter.new.self c.in-Ok.who c.in-Ok.ensures.ok

pub returns-clause-step : goal.returns-clause-step
returns-clause-step c = enter_step c.self.inside c.self.invariant c.enter.new.self c.in-Ok.who c.in-Ok.ensures.ok c.args.self.now c.self.view_is

pub returns-clause-least : goal.returns-clause-least
returns-clause-least c = enter_least c.self.inside c.self.invariant c.enter.new.self c.in-Ok.who c.in-Ok.ensures.ok c.args.self.now c.self.view_is
