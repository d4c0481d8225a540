use Rattle.fx_script.proofs.Found.{ascii_by}
use Rattle.fx_script.proofs.line.is_ascii.Goals as goal

pub returns : goal.returns
returns c = ascii_by c.is_ascii.result c.args.line.now c.is_ascii.ensures.cases
