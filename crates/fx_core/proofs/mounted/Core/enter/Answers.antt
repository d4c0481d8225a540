use Rattle.fx_parts.specs.Happening.{Enter}
use Rattle.fx_core.proofs.Calls.{core_step, core_still}
use Rattle.fx_core.proofs.mounted.Core.enter.Goals as goal

pub invariant_of-self : goal.invariant_of-self
invariant_of-self g c = core_still c.self.invariant c.in_default.ensures.err

pub invariant_of-self-2 : goal.invariant_of-self-2
invariant_of-self-2 g c = core_step c.self.invariant (Enter c.in-Ok.who) tt c.in-Ok.ensures.step
