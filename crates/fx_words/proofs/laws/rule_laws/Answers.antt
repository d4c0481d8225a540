use Rattle.fx_words.proofs.FullRules.{full_line_rules}
use Rattle.fx_words.proofs.laws.rule_laws.Goals as goal

pub returns : goal.returns
returns c = full_line_rules
