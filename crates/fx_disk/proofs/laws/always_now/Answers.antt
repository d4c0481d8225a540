use Rattle.fx_disk.proofs.Told.{begun-now, holds-now, told-follows}
use Rattle.fx_disk.proofs.laws.always_now.Goals as goal

pub returns-clause-begin : goal.returns-clause-begin
returns-clause-begin g c = begun-now g.P.ImageFact.holds

pub returns-clause-now : goal.returns-clause-now
returns-clause-now g c = holds-now g.P.ImageFact.holds

pub returns-clause-follows : goal.returns-clause-follows
returns-clause-follows g c = told-follows g.P.ImageFact.holds g.Q.ImageFact.holds
