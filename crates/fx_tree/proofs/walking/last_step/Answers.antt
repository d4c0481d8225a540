use Rattle.std.proofs.Common.{◌∙◌, sym}
use Rattle.fx_tree.proofs.LastSteps.{last_is}
use Rattle.fx_tree.proofs.walking.last_step.Goals as goal

pub returns-clause-last : goal.returns-clause-last
returns-clause-last c = last_is c.args.path.now c.in-Some.field-0-1.now c.in-Some.name.now c.args.dirs.now c.in-Some-split_last.field-0-1.now c.in-Some-split_last.parent.now c.requires (sym c.as_slice.ensures ∙ c.in-Some.ensures.cases.0) (sym c.as_slice-2.ensures ∙ c.in-Some-split_last.ensures.cases.0)

pub returns-clause-named : goal.returns-clause-named
returns-clause-named c = (c.in-Some.field-0-1.now, sym c.as_slice.ensures ∙ c.in-Some.ensures.cases.0)
