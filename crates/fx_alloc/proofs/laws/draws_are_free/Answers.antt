use Rattle.fx_alloc.proofs.SpaceLaws.{draws-are_free}
use Rattle.fx_alloc.proofs.laws.draws_are_free.Goals as goal

pub returns : goal.returns
returns c = draws-are_free
