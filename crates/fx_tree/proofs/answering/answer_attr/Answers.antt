use Rattle.std.proofs.Common.{◌∙◌, sym}
use Rattle.std.specs.Prelude.{option_map}
use Rattle.fx_item.specs.Item.{value_of}
use Rattle.fx_tree.proofs.Answered.{attr_missing, attr_stopped, attr_told}
use Rattle.fx_tree.proofs.Made.{missing_met, stop_met}
use Rattle.fx_tree.proofs.answering.answer_attr.Goals as goal

pub returns-in-Stopped-clause-answer : goal.returns-in-Stopped-clause-answer
returns-in-Stopped-clause-answer g c = λ f t s. attr_stopped t c.args.path.now c.args.name.now c.in-Stopped.refusal (stop_met c.in-Stopped.refusal s c.in_ok-walk.ensures.met c.in-Stopped.is)

pub returns-in-Missing-clause-answer : goal.returns-in-Missing-clause-answer
returns-in-Missing-clause-answer g c = λ f t s. attr_missing t c.args.path.now c.args.name.now (missing_met s c.in_ok-walk.ensures.met c.in-Missing.is)

pub returns-clause-answer : goal.returns-clause-answer
returns-clause-answer g c = λ f t s. attr_told s c.in_ok-walk.ensures.met c.in-Node.node c.in-Node.field-1 c.in-Node.is c.args.name.now (option_map value_of c.in_ok-found-in-Node.found) c.in_ok-found-in-Node.ensures.found
    ∙ sym c.told.ensures
