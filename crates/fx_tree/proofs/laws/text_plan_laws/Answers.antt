use Rattle.fx_tree.proofs.Texts.{size_does, text_does}
use Rattle.fx_tree.proofs.laws.text_plan_laws.Goals as goal

pub returns-clause-text : goal.returns-clause-text
returns-clause-text c = text_does

pub returns-clause-size : goal.returns-clause-size
returns-clause-size c = size_does
