use Rattle.std.proofs.Common.{sym, subst}
use Rattle.fx_numbers.specs.State.{IsUsed}
use Rattle.fx_core.specs.Core.{CoreState}
use Rattle.fx_core.proofs.Calls.{core_rollback}
use Rattle.fx_core.proofs.mounted.Core.rollback.Goals as goal

pub rollback-requires : goal.rollback-requires
rollback-requires g c = subst (λ (v : CoreState g.row.D.Denot). IsUsed v.numbers c.args.who) (sym c.self.view_is) c.requires

pub invariant_of-self : goal.invariant_of-self
invariant_of-self g c =
    let used = subst (λ (v : CoreState g.row.D.Denot). IsUsed v.numbers c.args.who) (sym c.self.view_is) c.requires in
    core_rollback c.self.invariant c.args.who used.0 used.1 c.cancel.new.self c.cancel.ensures.seat c.cancel.ensures.queue c.cancel.ensures.cancelled c.cancel.ensures.wants c.rollback.ensures
