use Rattle.fx_cuts.proofs.Dropping.{drop_begin, drop_write, drop_flush, drop_end}
use Rattle.fx_cuts.proofs.mounting.while_dropping.Goals as goal

pub returns-clause-begin : goal.returns-clause-begin
returns-clause-begin g c = drop_begin g.W.ImageReader.means

pub returns-clause-write : goal.returns-clause-write
returns-clause-write g c = drop_write g.W.ImageReader.means

pub returns-clause-flush : goal.returns-clause-flush
returns-clause-flush g c = drop_flush g.W.ImageReader.means

pub returns-clause-ends : goal.returns-clause-ends
returns-clause-ends g c = drop_end g.W.ImageReader.means
