use Rattle.fx_live.proofs.Together.{kept_by_extents, live_by_extents, through_allocated}
use Rattle.fx_live.proofs.laws.live_laws.Goals as goal

pub returns-clause-live : goal.returns-clause-live
returns-clause-live c = λ m txns block sum a t. live_by_extents m txns a t block sum

pub returns-clause-kept : goal.returns-clause-kept
returns-clause-kept c = λ m base txns found k a t. kept_by_extents m txns found a t base k

pub returns-clause-allocated : goal.returns-clause-allocated
returns-clause-allocated c = through_allocated
