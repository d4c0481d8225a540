use Rattle.fx_super.proofs.Chosen.{newer_chosen}
use Rattle.fx_super.proofs.laws.other_block_written.Goals as goal

pub returns-clause-newer : goal.returns-clause-newer
returns-clause-newer c = newer_chosen
