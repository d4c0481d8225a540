use Rattle.std.proofs.Common.{sym, subst}
use Rattle.fx_numbers.specs.State.{IsUsed}
use Rattle.fx_parts.specs.Happening.{TakeSnapshot}
use Rattle.fx_core.specs.Core.{CoreState}
use Rattle.fx_core.proofs.Calls.{core_step, core_still}
use Rattle.fx_core.proofs.mounted.Core.snapshot.Goals as goal

pub snapshot-requires : goal.snapshot-requires
snapshot-requires g c = subst (λ (v : CoreState g.row.D.Denot). IsUsed v.numbers c.args.who) (sym c.self.view_is) c.requires

pub invariant_of-self : goal.invariant_of-self
invariant_of-self g c = core_still c.self.invariant c.in_default.ensures.err

pub invariant_of-self-2 : goal.invariant_of-self-2
invariant_of-self-2 g c = core_step c.self.invariant (TakeSnapshot c.args.who) tt c.in-Ok.ensures.step
