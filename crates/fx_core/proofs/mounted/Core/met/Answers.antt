use Rattle.std.proofs.Common.{sym, subst}
use Rattle.fx_numbers.specs.State.{IsUsed}
use Rattle.fx_parts.specs.Happening.{Meet}
use Rattle.fx_core.specs.Core.{CoreState}
use Rattle.fx_core.proofs.Calls.{core_step}
use Rattle.fx_core.proofs.mounted.Core.met.Goals as goal

pub met-requires : goal.met-requires
met-requires g c = subst (λ (v : CoreState g.row.D.Denot). IsUsed v.numbers c.args.who) (sym c.self.view_is) c.requires

pub invariant_of-self : goal.invariant_of-self
invariant_of-self g c = core_step c.self.invariant (Meet c.args.who) tt c.met.ensures
