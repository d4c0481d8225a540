use Rattle.fx_plain.proofs.Copies.{same_copy}
use Rattle.fx_plain.proofs.path.copy_path.Goals as goal

pub returns : goal.returns
returns c = same_copy _ c.clone.result c.args.path.now c.clone.ensures.cases
