use Rattle.std.proofs.Common.{sym, subst}
use Rattle.fx_numbers.specs.State.{HasUsedPart}
use Rattle.fx_parts.specs.Happening.{MayRaise, RaiseKey}
use Rattle.fx_core.specs.Core.{CoreState}
use Rattle.fx_core.proofs.Calls.{core_step}
use Rattle.fx_core.proofs.mounted.Core.raise.Goals as goal

pub raise-requires : goal.raise-requires
raise-requires g c = subst (λ (v : CoreState g.row.D.Denot). HasUsedPart v.numbers c.args.who (MayRaise c.args.key)) (sym c.self.view_is) c.requires

pub invariant_of-self : goal.invariant_of-self
invariant_of-self g c = core_step c.self.invariant (RaiseKey c.args.who c.args.key c.raise.result c.raise.new.self.table) tt c.raise.ensures
