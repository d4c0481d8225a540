use Rattle.std.proofs.Common.{sym, subst}
use Rattle.fx_numbers.specs.State.{HasUsedPart}
use Rattle.fx_parts.specs.Happening.{AskKey, MayAsk}
use Rattle.fx_core.specs.Core.{CoreState}
use Rattle.fx_core.proofs.Calls.{core_step}
use Rattle.fx_core.proofs.mounted.Core.ask.Goals as goal

pub ask-requires : goal.ask-requires
ask-requires g c = subst (λ (v : CoreState g.row.D.Denot). HasUsedPart v.numbers c.args.who (MayAsk c.args.key c.args.mode)) (sym c.self.view_is) c.requires

pub invariant_of-self : goal.invariant_of-self
invariant_of-self g c = core_step c.self.invariant (AskKey c.args.who c.args.key c.args.mode c.ask.result c.ask.new.self.table) tt c.ask.ensures
