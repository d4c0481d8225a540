use Rattle.fx_live.proofs.Moved.{moved_allocated, moved_together}
use Rattle.fx_live.proofs.Swapped.{line_moves, line_sums, lists_apart}
use Rattle.fx_live.proofs.laws.moving_laws.Goals as goal

pub returns-clause-allocated : goal.returns-clause-allocated
returns-clause-allocated c = moved_allocated

pub returns-clause-swapped : goal.returns-clause-swapped
returns-clause-swapped c = λ m said changes taken freed a is w. (line_moves m said changes taken freed is w a, lists_apart m said changes taken freed is w a)

pub returns-clause-sums : goal.returns-clause-sums
returns-clause-sums c = λ m items changes taken freed o is w. line_sums m items changes taken freed is w o

pub returns-clause-together : goal.returns-clause-together
returns-clause-together c = moved_together
