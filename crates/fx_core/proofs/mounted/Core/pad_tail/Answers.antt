use Rattle.fx_core.proofs.Calls.{core_pad}
use Rattle.fx_core.proofs.mounted.Core.pad_tail.Goals as goal

pub invariant_of-self : goal.invariant_of-self
invariant_of-self g c = core_pad c.self.inside.numbers c.self.invariant c.pad.new.self c.pad.ensures.rest c.pad.ensures.padded c.pad.ensures.tails.1 c.pad.ensures.queue
