use Rattle.fx_alloc.specs.Uses.{use_at}
use Rattle.fx_space_uses.proofs.Table.{free_tells, drawn_tells, called_same}
use Rattle.fx_space_uses.proofs.laws.table_tells.Goals as goal

pub returns-clause-free : goal.returns-clause-free
returns-clause-free c uses s at h lt e = free_tells s at (uses at) (use_at s.uses at) (h.each at lt) e

pub returns-clause-drawn : goal.returns-clause-drawn
returns-clause-drawn c uses s who at seat h lt has e = drawn_tells s at (uses at) (use_at s.uses at) who seat (h.each at lt) has e

pub returns-clause-same : goal.returns-clause-same
returns-clause-same c = called_same
