use Rattle.fx_logcuts.proofs.CutParts.{base-rises, cut-now, cut-rises, cut-stays, past-cut}
use Rattle.fx_logcuts.proofs.cut_laws.Goals as goal

pub returns-clause-now : goal.returns-clause-now
returns-clause-now c = cut-now

pub returns-clause-stays : goal.returns-clause-stays
returns-clause-stays c = λ opened last blocks more commits others n count cut. cut-stays opened last blocks commits n count cut more others

pub returns-clause-past : goal.returns-clause-past
returns-clause-past c = λ opened last blocks text commits n count a cut. past-cut opened last blocks commits n count cut text a

pub returns-clause-rises : goal.returns-clause-rises
returns-clause-rises c = cut-rises

pub returns-clause-bases : goal.returns-clause-bases
returns-clause-bases c = base-rises
