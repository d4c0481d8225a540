use Rattle.fx_super.proofs.Chosen.{chosen_by}
use Rattle.fx_super.proofs.laws.chosen_by_generation.Goals as goal

pub returns : goal.returns
returns c = chosen_by
