use Rattle.std.proofs.Common.{sym, ◌∙◌}
use Rattle.fx_verify.proofs.Sets.{one_held}
use Rattle.fx_verify.proofs.keeping.is_clear.Goals as goal

pub returns-clause-wrong : goal.returns-clause-wrong
returns-clause-wrong c = λ e. one_held c.args.wrong.now (λ none. absurd (cc (sym e ∙ c.is_empty.ensures.1 none)))
