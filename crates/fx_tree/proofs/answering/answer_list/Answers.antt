use Rattle.fx_tree.proofs.Answered.{children_under, list_dir, list_file, list_missing, list_stopped}
use Rattle.fx_tree.proofs.Made.{missing_met, stop_met}
use Rattle.fx_tree.proofs.answering.answer_list.Goals as goal

pub returns-in-Stopped-clause-answer : goal.returns-in-Stopped-clause-answer
returns-in-Stopped-clause-answer g c = λ f t s. list_stopped t c.args.path.now c.in-Stopped.refusal (stop_met c.in-Stopped.refusal s c.in_ok-walk.ensures.met c.in-Stopped.is)

pub returns-in-Missing-clause-answer : goal.returns-in-Missing-clause-answer
returns-in-Missing-clause-answer g c = λ f t s. list_missing t c.args.path.now (missing_met s c.in_ok-walk.ensures.met c.in-Missing.is)

pub returns-in-File-clause-answer : goal.returns-in-File-clause-answer
returns-in-File-clause-answer g c = λ f t s. list_file s c.in_ok-walk.ensures.met c.in-Node.node c.in-Node.kind c.in-Node.is c.in-File.is

pub returns-clause-answer : goal.returns-clause-answer
returns-clause-answer g c = λ f t s. list_dir s c.in_ok-walk.ensures.met c.in-Node.node c.in-Node.kind c.in-Node.is c.in-Dir.is
    c.in_ok-found-in-Dir.found (children_under c.look_laws.ensures.map (g.L.Look.said c.args.look.now) c.in-Node.node c.in_ok-found-in-Dir.found c.in_ok-found-in-Dir.ensures.items)
