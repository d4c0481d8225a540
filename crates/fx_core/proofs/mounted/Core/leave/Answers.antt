use Rattle.std.proofs.Common.{sym, subst}
use Rattle.fx_numbers.specs.State.{HasUsedPart}
use Rattle.fx_parts.specs.Happening.{Leave}
use Rattle.fx_parts.specs.Parts.{IsEmptyPart}
use Rattle.fx_core.specs.Core.{CoreState}
use Rattle.fx_core.proofs.Calls.{core_step}
use Rattle.fx_core.proofs.mounted.Core.leave.Goals as goal

pub leave-requires : goal.leave-requires
leave-requires g c = subst (λ (v : CoreState g.row.D.Denot). HasUsedPart v.numbers c.args.who IsEmptyPart) (sym c.self.view_is) c.requires

pub invariant_of-self : goal.invariant_of-self
invariant_of-self g c = core_step c.self.invariant (Leave c.args.who) tt c.leave.ensures
