use Rattle.std.proofs.Common.{sym, subst}
use Rattle.fx_numbers.specs.State.{IsUsed}
use Rattle.fx_parts.specs.Happening.{Unlock}
use Rattle.fx_core.specs.Core.{CoreState}
use Rattle.fx_core.proofs.Calls.{core_step}
use Rattle.fx_core.proofs.mounted.Core.unlock.Goals as goal

pub unlock-requires : goal.unlock-requires
unlock-requires g c = subst (λ (v : CoreState g.row.D.Denot). IsUsed v.numbers c.args.who) (sym c.self.view_is) c.requires

pub invariant_of-self : goal.invariant_of-self
invariant_of-self g c = core_step c.self.invariant (Unlock c.args.who c.unlock.new.self.table) tt c.unlock.ensures
