use Rattle.fx_script.specs.Cut.{cut_rest}
use Rattle.fx_words.proofs.FullScripts.{sent_task_is, sent_task_right}
use Rattle.fx_words.proofs.script.checked_task.Goals as goal

pub invariant_of-result : goal.invariant_of-result
invariant_of-result c =
    sent_task_right c.args.built c.args.many c.args.number c.args.line.now c.in-Ok.client (cut_rest 32 c.in-Ok.words) c.requires c.in-Ok.ensures

pub returns : goal.returns
returns c =
    sent_task_is c.args.built c.args.many c.args.number c.args.line.now c.in-Ok.client (cut_rest 32 c.in-Ok.words) c.requires c.in-Ok.ensures
